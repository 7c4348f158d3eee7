pub mod Causes
pub mod Climbing
pub mod Refusing
