-- What a layout text is, without any reader: Spelling, then Faults (the numbers 2, 3 and 4), Claim, and worked
-- examples.
pub mod Spelling
pub mod Faults
pub mod Claim
pub mod Examples
