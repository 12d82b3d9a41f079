-- Sound and Spelling (over Layouts) and Places (over Local) prove what specs/Claim.antt states.
mod Examples
mod Layouts
pub mod Spelling
pub mod Sound
mod Local
pub mod Places
mod Instance
