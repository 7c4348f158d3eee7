pub mod Due
pub mod Faces
pub mod Goes
pub mod Calls
pub mod Made
pub mod Once
