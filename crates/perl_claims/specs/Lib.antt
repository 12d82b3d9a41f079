-- What is proved of the definitions of M-105 besides the effect of a call (Spelling, then Claim), and worked examples.
pub mod Spelling
pub mod Claim
pub mod Examples
