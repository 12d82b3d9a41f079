-- What is claimed of the rows of a layout's fields, and worked examples.
pub mod Claim
pub mod Examples
