-- The fields of a layout with their places, and what a layout promises.
pub mod Placed
pub mod Promises
pub mod inside
