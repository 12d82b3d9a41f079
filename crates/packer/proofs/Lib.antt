-- Laws of the whole call.
pub mod WholeLaws
