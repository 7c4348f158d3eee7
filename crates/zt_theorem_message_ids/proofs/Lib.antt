pub mod Standing
pub mod Rules
pub mod Calls
pub mod Turns
