-- Laws of the numbers of a template.
pub mod Numbers
