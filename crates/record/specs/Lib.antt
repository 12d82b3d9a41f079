-- The definitions of document 01, to be read from top to bottom; layout text is in the crate `layout`.
pub mod Bytes
pub mod Table
pub mod Slots
pub mod Geometry
pub mod Packing
pub mod Reading
pub mod Order
pub mod inside
