-- Comparing two copies of a record (02, M-102): two values by themselves, the findings of the report, the effect of a
-- call. What is claimed of them is in the crate `compare_claims`.
pub mod Difference
pub mod Report
pub mod Comparing
pub mod inside
