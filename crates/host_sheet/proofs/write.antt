-- Laws of writing sheets for a C host.
mod Calls
