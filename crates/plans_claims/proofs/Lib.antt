-- The claims proved, and the examples.
mod Examples
mod Fields
pub mod Claims
