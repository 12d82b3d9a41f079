-- Laws of what the calls for a C host share.
pub mod Guards
pub mod Calls
