pub mod Carried
pub mod Firsts
pub mod Joints
pub mod Members
pub mod Placed
pub mod PutBack
pub mod Restored
pub mod Sorts
