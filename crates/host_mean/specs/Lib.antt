-- What the mean means for a C host.
pub mod Calls
