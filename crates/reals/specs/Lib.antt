-- What the loops over reals promise each other.
pub mod inside
