-- What the functions that read a sheet promise each other. The definition stands in the crate `sheet`.
pub mod inside
