-- Laws of the two calls.
mod Calls
mod Instance
mod Idle
