pub mod More
pub mod Routed
pub mod KeysOf
pub mod Listed
pub mod Lookups
