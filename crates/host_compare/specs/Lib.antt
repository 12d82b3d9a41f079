-- What comparing means for a C host.
pub mod Calls
pub mod inside
