pub mod Placed
pub mod Hinting
pub mod Parts
pub mod Risen
pub mod Untold
pub mod Answered
