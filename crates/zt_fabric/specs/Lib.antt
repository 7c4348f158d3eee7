pub mod Transcripts
pub mod Carrying
pub mod Making
