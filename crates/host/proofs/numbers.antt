-- Laws of numbers as bytes, for the calls for a C host.
pub mod NumberLaws
pub mod Claims
