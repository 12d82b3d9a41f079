-- The laws that the writer goes by.
mod Versions
