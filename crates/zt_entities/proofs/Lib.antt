mod ByFace
mod Knowing
mod Together
