pub mod Growing
mod Ends
pub mod Members
mod Numbers
mod Pairs
