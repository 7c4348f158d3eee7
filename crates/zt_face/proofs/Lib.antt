mod Answered
mod Found
pub mod Told
