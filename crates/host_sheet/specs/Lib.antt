-- What the calls on sheets mean for a C host.
pub mod Writing
pub mod Reading
pub mod Rescuing
