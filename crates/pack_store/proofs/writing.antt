-- Laws of the writing pass; RunLaws is for the crates above too.
pub mod RunLaws
mod WriteLaws
