-- Contracts between inner functions: nothing that a reader of the calls and claims has to believe.
pub mod Measure
pub mod Walk
pub mod Texts
