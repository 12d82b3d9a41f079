-- The mean of the marked legs (02, M-104): the definitions, what is claimed of them, worked examples.
pub mod Mean
pub mod Claims
pub mod Examples
pub mod inside
