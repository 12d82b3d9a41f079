-- The laws that the passes over the entries go by.
pub mod Walks
