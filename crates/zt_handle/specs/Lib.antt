pub mod Owned
pub mod Opening
