-- What the calls by plans mean for a C host.
pub mod Calls
pub mod inside
