pub mod Rules
pub mod Tokens
pub mod Everywhere
pub mod Answers
pub mod Calls
pub mod Staying
pub mod Asks
