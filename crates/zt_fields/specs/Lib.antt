pub mod Numbers
pub mod Fields
pub mod Values
pub mod Spellings
