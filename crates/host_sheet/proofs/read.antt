-- Laws of reading sheets for a C host.
mod Calls
