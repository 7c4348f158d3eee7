pub mod Gone
pub mod Untelling
pub mod Telling
pub mod Answering
pub mod Sparing
pub mod Kept
pub mod Admitted
pub mod MoreSparing
