pub mod Waiting
pub mod Found
