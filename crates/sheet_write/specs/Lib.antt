-- What the functions that write a sheet promise each other. The definition stands in the crate `sheet`.
pub mod inside
