-- The laws by which the call is proved.
mod Whole
