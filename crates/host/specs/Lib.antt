-- Slots and replies as a C host lends them: numbers as bytes, what a call leaves, and what is claimed of the numbers.
pub mod Numbers
pub mod Host
pub mod Claims
pub mod inside
