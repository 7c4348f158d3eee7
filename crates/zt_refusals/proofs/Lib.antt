mod Answering
mod Askers
pub mod LeftIds
mod Listing
pub mod Numbering
mod Passing
mod Seekers
