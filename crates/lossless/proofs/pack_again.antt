-- Laws of the two calls.
mod Calls
