pub mod Chosen
pub mod Ended
pub mod Held
pub mod Lowest
pub mod Untold
