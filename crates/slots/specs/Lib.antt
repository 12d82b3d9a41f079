-- Slot records as numbers, what reading over them leaves, and demand 3 over them.
pub mod Slots
pub mod Reading
pub mod ReadBack
pub mod inside
