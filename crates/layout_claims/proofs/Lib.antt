-- Why the claims hold: Scan (one field), Form and Ends (the grammar by itself), Reader and Judged (the layout reader).
pub mod Scan
pub mod Form
pub mod Ends
pub mod Reader
pub mod Judged
pub mod Examples
pub mod Instance
