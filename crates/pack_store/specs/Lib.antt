-- What the second pass of a packing computes. The definition of packing itself stands in the crate `record`.
pub mod inside
