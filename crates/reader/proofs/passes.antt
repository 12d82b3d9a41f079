-- The laws of each way out, and of the whole call.
pub mod Calls
pub mod Whole
