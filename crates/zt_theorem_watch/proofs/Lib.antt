pub mod Fold
pub mod Lists
pub mod Beside
pub mod Machine
pub mod Polled
pub mod Growing
