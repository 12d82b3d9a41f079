-- The proof of demand 3, from the field outwards; reals packed again; an instance of the premises; the examples.
mod Fields
mod Run
mod Whole
mod Arguments
mod Proper
pub mod ReadsBack
mod Reals
pub mod Instance
mod Examples
