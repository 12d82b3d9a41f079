-- Laws of the measuring pass.
pub mod Bounds
pub mod MeasureLaws
