-- Laws of layout text. Laws, Numbered, Encoded, Decoded, Places, Joining and the last laws of Steps are for the crates
-- above; Letters, Steps and Turns serve `parse`.
pub mod Letters
pub mod Encoded
pub mod Steps
pub mod Turns
pub mod Laws
pub mod Numbered
pub mod Decoded
pub mod Places
pub mod Joining
