pub mod Steady
pub mod Ways
