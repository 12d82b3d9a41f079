-- Laws of the numbers of a plan, of the loop that judges them, and of the whole calls.
pub mod Fields
mod Judging
pub mod Calls
