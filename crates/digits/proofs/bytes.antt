-- The laws that belong to no one function.
pub mod DigitBytes
pub mod DigitEights
