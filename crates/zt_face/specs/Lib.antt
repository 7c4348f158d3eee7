pub mod Ids
pub mod Locals
pub mod Told
