-- Rescuing a damaged sheet (02, M-109): the definition, what is claimed of it, worked examples.
pub mod Rescue
pub mod Claims
pub mod Examples
pub mod inside
