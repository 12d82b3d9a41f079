-- Sheets (02, M-100): a table of slots as a run of bytes. Read Entries, then Sheet; Claims states what is kept on the
-- way to a sheet and back. Examples has what worked examples are written with (the crate `sheet_claims`).
pub mod Entries
pub mod Sheet
pub mod Claims
pub mod Examples
pub mod inside
