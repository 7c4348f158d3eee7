mod Heard
mod Kept
mod Numbered
pub mod OwnRows
mod Recounted
pub mod Sought
pub mod Walks
mod Uncounting
mod Tabled
mod Unrouted
