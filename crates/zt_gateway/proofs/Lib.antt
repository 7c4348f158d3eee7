mod Accepted
mod ByFace
mod Listed
mod Making
mod Next
mod Oldest
mod Walks
