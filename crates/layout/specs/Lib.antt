-- The text of a layout. Read Refusals, then Layout; Codes is the form in which a plan holds the fields, and Quoted a
-- text as its bytes.
pub mod Refusals
pub mod Layout
pub mod Codes
pub mod Quoted
pub mod inside
