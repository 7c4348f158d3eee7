pub mod Held
pub mod Told
pub mod Seekers
pub mod Retold
