-- Laws of filled-up entries and of the call, and the laws that the code goes by.
pub mod Calls
pub mod Filled
mod Clearing
mod Runs
