pub mod ById
pub mod Found
pub mod Mapped
pub mod Places
