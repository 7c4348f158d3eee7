pub mod Ran
pub mod Sound
pub mod Lines
