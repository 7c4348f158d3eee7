mod Visible
pub mod Gathering
pub mod Answers
pub mod Chosen
pub mod Unsought
mod Unheard
mod Gone
pub mod Told
mod Asked
