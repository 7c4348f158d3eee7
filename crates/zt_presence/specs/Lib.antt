pub mod Polling
pub mod Presence
