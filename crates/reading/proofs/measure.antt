-- The laws that belong to no one function.
pub mod Run
mod Measured
pub mod Room
pub mod Bounds
