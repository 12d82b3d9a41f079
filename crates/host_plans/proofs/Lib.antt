-- Laws of plans for a C host.
mod Calls
