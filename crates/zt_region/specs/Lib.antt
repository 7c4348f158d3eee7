pub mod Region
pub mod RegionError
pub mod Admission
pub mod South
pub mod Tables
pub mod ZidHash
