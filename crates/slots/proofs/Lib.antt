-- Laws of the definitions.
pub mod Runs
pub mod Limits
mod ReadBack
mod Instance
