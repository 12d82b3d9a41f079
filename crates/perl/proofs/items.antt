-- Laws of the items of a Perl template. Texts are laws of the definitions; Blocks and Letters serve the readers of the
-- code.
pub mod Texts
pub mod Blocks
pub mod Letters
