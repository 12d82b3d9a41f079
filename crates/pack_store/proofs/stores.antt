-- The laws of storing one value; those of lists are for the crates above too.
pub mod StoreLaws
