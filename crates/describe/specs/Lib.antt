-- A layout before it is used: its slots and its shortest record (Description, with its Claim), its fields with their
-- places (Placed, with the claim Places), and a row of numbers for each field (Rows).
pub mod Description
pub mod Claim
pub mod Placed
pub mod Places
pub mod Rows
pub mod inside
