pub mod Indexed
pub mod Keeps
pub mod OwnRows
pub mod Pendings
pub mod Told
