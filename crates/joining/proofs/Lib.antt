-- The proof of M-113, and an instance of its premises.
pub mod Joining
mod Instance
