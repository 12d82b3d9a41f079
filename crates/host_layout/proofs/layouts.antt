-- Laws of the call that describes a layout for a C host.
mod Calls
