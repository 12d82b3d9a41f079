-- Contracts between inner functions: nothing that a reader of the calls and claims has to believe.
pub mod Tables
pub mod Bounds
pub mod Run
pub mod positions
pub mod put
pub mod value
