-- Contracts between inner functions: nothing that a reader of the calls and claims has to believe.
pub mod load
pub mod store
