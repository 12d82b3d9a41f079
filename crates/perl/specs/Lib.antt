-- Perl pack templates as layouts (02, M-105). Read Tokens, Template and Writing, then Conversion, whose `from_perl` is
-- the effect of a call; what is proved of it besides, and worked examples, are in the crate `perl_claims`.
pub mod Tokens
pub mod Template
pub mod Writing
pub mod Conversion
pub mod inside
