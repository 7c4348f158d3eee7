pub mod Asked
pub mod LineCalls
pub mod Covered
pub mod Found
pub mod Turns
pub mod Walked
pub mod Sought
