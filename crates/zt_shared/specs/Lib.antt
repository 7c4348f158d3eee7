pub mod Recorded
pub mod Sharing
