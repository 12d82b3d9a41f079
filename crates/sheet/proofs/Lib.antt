-- Laws of sheets from the entry outwards, and the claims with an instance of their premises.
pub mod Entries
pub mod Tables
pub mod Sheets
pub mod Calls
pub mod Unset
pub mod Claims
pub mod Fitting
pub mod Bounds
mod Instance
