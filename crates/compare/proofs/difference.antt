-- The laws that belong to no one function.
mod Runs
pub mod Bits
mod Pairs
