pub mod Test
pub mod Rows
pub mod Found
pub mod Placing
pub mod Pairs
