pub mod Asked
pub mod Numbers
pub mod Speaking
pub mod Opening
pub mod Replay
pub mod Order
