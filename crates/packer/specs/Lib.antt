-- What both passes of a packing leave. The definition of packing itself stands in the crate `record`.
pub mod inside
