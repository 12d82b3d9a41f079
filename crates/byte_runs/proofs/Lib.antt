-- The laws that belong to no one function.
pub mod ByteLaws
pub mod Endian
