pub mod Walks
pub mod Gathered
pub mod Answered
pub mod Seeking
pub mod Gone
