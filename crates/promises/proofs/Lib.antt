-- Laws of the two calls; the crate `promises_claims` uses those of places and of fields that are the same.
pub mod Same
mod Fronts
pub mod Places
mod Calls
