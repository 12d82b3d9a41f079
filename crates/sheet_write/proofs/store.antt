-- The laws that the two passes go by.
mod Writing
