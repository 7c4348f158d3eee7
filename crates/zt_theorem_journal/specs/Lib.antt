pub mod Alone
pub mod Asked
pub mod Dealt
