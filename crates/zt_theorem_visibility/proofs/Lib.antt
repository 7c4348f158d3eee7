pub mod Exact
pub mod Reaching
pub mod Future
pub mod Calls
pub mod Faces
pub mod Saying
pub mod Printed
pub mod Opened
