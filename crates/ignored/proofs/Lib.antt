-- The proofs of what is not looked at.
mod Positions
mod Flags
mod Instance
