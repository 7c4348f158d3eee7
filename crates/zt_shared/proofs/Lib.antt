mod Entering
mod Sharing
