-- The proofs of the claims, with instances of their premises.
pub mod Examples
mod ExamplesInstance
mod Older
mod OlderReals
mod OlderInstance
