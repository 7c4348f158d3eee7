pub mod Held
pub mod Holders
pub mod Holdings
pub mod Index
pub mod Wilds
