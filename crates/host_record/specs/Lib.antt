-- What packing and reading mean for a C host, and what a reading claims besides.
pub mod Packing
pub mod Reading
pub mod Claims
pub mod inside
