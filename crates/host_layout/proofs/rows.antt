-- Laws of the call that lists a layout's fields for a C host.
mod Calls
