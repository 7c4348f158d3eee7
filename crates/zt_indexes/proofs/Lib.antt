mod Apart
mod Changed
pub mod Copied
mod Counting
mod Gathered
pub mod Hashed
mod InOrder
mod Kept
mod Less
mod OneEach
pub mod Ordered
mod Regrouped
mod Seeking
mod Sets
