-- What the passes of a reading compute. The definition of reading itself stands in the crate `record`.
pub mod inside
