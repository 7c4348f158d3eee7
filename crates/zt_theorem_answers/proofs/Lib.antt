pub mod AtOnce
pub mod Turning
pub mod Turns
