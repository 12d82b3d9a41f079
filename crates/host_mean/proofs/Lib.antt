-- Laws of the mean for a C host.
mod Calls
