-- Laws of the readers of a template. Readings are laws of the definitions; Turns serves the readers of the code.
pub mod Readings
mod Turns
