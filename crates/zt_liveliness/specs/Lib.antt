pub mod Books
pub mod Queues
pub mod Mail
pub mod Lively
pub mod Replies
pub mod Subscribed
