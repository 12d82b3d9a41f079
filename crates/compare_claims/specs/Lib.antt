-- What is proved of the definitions of M-102 besides the effect of a call, and worked examples.
pub mod Claims
pub mod Verdicts
pub mod Examples
