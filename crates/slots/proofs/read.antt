-- Laws of the definitions.
mod Calls
