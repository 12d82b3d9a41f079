-- Laws of the definitions.
mod Parts
