pub mod Wrong
pub mod Part1
pub mod Part2
pub mod Part3
pub mod Lacking
pub mod Premises
