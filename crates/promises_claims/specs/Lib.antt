-- What the answers of the two calls have to do with demand 3, M-107 and M-113; and worked examples.
pub mod Claim
pub mod Examples
