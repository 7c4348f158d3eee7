pub mod Status
pub mod Numbers
pub mod Keys
pub mod Messages
pub mod Answers
pub mod Given
