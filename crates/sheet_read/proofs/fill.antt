-- The laws that the writing goes by.
mod Filling
