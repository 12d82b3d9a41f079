-- Laws of reading for a C host.
pub mod Calls
pub mod Theorems
