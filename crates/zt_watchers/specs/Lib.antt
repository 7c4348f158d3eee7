pub mod Beside
pub mod Text
pub mod Watching
