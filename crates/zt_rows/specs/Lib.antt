pub mod ById
pub mod Places
pub mod Slots
