mod Changed
mod Copied
mod Left
mod Ordered
mod Pairs
mod Placed
mod AmongFaces
pub mod SeekersChanged
mod Heard
pub mod Held
pub mod Numbers
mod Retold
pub mod ToldAt
