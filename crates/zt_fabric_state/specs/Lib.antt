pub mod Changes
pub mod Joints
