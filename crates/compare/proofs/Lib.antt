-- The laws that belong to no one function.
pub mod Shown
pub mod Calls
pub mod Lent
