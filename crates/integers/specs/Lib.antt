-- What the loops over integers promise each other.
pub mod inside
