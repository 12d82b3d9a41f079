-- Laws of the definitions, for the crates above; Answered has the worked examples of the order of refusals.
mod Answered
pub mod Bytes
pub mod Bounds
pub mod Stores
pub mod Tables
pub mod Sizes
pub mod SlotLaws
pub mod NumberLaws
pub mod Fields
pub mod Moves
pub mod Widening
pub mod Readings
pub mod Arguments
mod Steps
pub mod ByFields
