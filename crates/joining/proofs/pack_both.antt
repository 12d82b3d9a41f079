-- Laws of the two packings.
mod Calls
mod Instance
