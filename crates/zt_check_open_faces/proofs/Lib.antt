pub mod Asked
pub mod Declaring
pub mod Opening
pub mod Listing
pub mod Rising
pub mod Telling
