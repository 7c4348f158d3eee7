pub mod FinalTurns
pub mod Finished
pub mod Frame
pub mod HeardAsks
pub mod Lines
pub mod Printed
pub mod Steps
pub mod Sought
