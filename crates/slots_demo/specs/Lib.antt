-- What the calls over a table by value leave.
pub mod inside
