-- Laws of cut entries, the claims with instances of their premises, and the laws that the code goes by.
pub mod Claims
pub mod Unset
mod Cuts
mod Instance
mod Examples
