-- Laws of packing for a C host.
mod Calls
