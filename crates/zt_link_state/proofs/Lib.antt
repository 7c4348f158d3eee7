pub mod Entries
pub mod Flat
pub mod More
pub mod Origins
pub mod Regions
mod Children
mod Clashes
mod Looked
mod Nodes
