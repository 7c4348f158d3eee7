pub mod Undeclared
pub mod Entities
pub mod Nodes
pub mod Exact
