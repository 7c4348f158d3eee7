pub mod Nexts
pub mod Drawn
pub mod Needs
pub mod Could
pub mod Within
