pub mod Listed
pub mod Refused
