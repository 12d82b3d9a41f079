-- What is claimed of plans, and worked examples.
pub mod Claim
pub mod Examples
