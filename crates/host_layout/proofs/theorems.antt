-- Laws of the two calls for a C host.
mod Calls
