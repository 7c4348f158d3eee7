pub mod Counting
pub mod Listed
pub mod Numbered
pub mod Seen
pub mod Parted
