pub mod Does
pub mod Leaving
pub mod Expired
pub mod Speaking
