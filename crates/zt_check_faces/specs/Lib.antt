pub mod Placed
pub mod Faces
pub mod Hinted
pub mod Parts
pub mod Rising
