-- The claims proved, and the examples.
mod Examples
mod Places
pub mod Kept
mod NotEmpty
pub mod Promises
pub mod Extends
