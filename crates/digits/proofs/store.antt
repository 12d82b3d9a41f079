-- The laws that belong to no one function.
mod FieldBytes
mod StripLaws
mod StoredSteps
