-- Laws of packing and reading that the theorems share, for the crates above.
pub mod Joined
pub mod Calls
pub mod Shown
pub mod OneRun
pub mod OldValues
pub mod Told
