pub mod Tables
pub mod Watched
pub mod Beside
