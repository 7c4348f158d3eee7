pub mod Effects
pub mod Keeping
pub mod Kept
pub mod Order
pub mod Shown
pub mod Sound
