-- What the calls say of the library itself.
pub mod Version
