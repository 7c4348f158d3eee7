pub mod Told
pub mod Samples
pub mod Seen
