-- The law of both calls.
mod Keeping
