pub mod Interest
pub mod Refusal
pub mod Plain
