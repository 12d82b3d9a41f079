-- What the theorems about packing and reading say of a layout's fields, and what holds of every reading.
pub mod Ends
pub mod OneRun
pub mod OldValues
