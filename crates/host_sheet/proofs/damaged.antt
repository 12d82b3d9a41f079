-- Laws of rescuing a sheet for a C host.
mod Calls
