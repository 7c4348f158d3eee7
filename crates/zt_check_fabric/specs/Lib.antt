pub mod Changed
pub mod Linked
pub mod Made
pub mod Placed
pub mod Waiting
