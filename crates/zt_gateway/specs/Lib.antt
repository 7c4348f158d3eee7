pub mod Lookups
pub mod Running
pub mod Settings
pub mod Declarers
