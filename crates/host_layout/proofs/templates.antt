-- Laws of the call on Perl templates for a C host.
mod Calls
