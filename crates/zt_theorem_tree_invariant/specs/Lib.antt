pub mod Facts
pub mod Joints
pub mod Trees
