-- What the calls on layouts mean for a C host: a layout described, its fields, which theorems cover it, a Perl template
-- as a layout.
pub mod Layouts
pub mod Fields
pub mod Theorems
pub mod Templates
