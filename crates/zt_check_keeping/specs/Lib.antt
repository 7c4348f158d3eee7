pub mod Bounds
pub mod Changed
pub mod Heard
pub mod Keeping
pub mod Owing
