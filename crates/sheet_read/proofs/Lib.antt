-- The laws that the reader goes by.
mod Runs
