pub mod Hats
