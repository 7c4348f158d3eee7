pub mod Branches
pub mod Greeting
pub mod Hiding
pub mod LeftOut
pub mod Reached
