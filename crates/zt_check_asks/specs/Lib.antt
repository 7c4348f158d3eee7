pub mod Calls
pub mod Answering
pub mod Gathered
