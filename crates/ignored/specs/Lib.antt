-- What the calls do not look at: positions of slots, flags of fields.
pub mod Positions
pub mod Flags
