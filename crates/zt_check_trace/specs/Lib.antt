pub mod Parts
pub mod Names
pub mod Script
pub mod Entries
