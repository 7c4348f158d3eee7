pub mod Running
pub mod Handles
