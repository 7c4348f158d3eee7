pub mod Counts
pub mod Ending
pub mod Folding
pub mod Interests
pub mod Laws
pub mod Resources
pub mod Results
