-- Laws of the pass over the fields, for the crates above too; the claim; the call.
pub mod Passing
pub mod Describes
mod Calls
mod Instance
pub mod Counts
pub mod Places
pub mod Spelled
