-- The claim proved, and the examples.
mod Examples
mod Instance
mod Letters
mod Follows
mod Opens
mod Lengths
mod Plain
mod Numbers
pub mod Claims
