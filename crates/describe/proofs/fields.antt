-- Laws of how packing moves, of the rows, and of the call; Moves and Listing are for the crate `describe_claims` too.
pub mod Moves
mod RowLaws
pub mod Listing
mod Calls
