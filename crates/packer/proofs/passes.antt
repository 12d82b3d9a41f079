-- Laws of the end of a call.
mod Finish
