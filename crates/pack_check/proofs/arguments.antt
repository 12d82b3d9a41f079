-- Laws of the check of an argument.
pub mod ArgumentLaws
