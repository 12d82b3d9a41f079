-- Laws of comparing for a C host.
mod Calls
