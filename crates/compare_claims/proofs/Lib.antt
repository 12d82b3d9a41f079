-- Claims and Verdicts prove what the files of these names in specs state.
mod Examples
pub mod Claims
pub mod Verdicts
