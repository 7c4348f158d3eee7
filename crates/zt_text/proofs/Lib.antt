pub mod TextLemmas
mod FitLemmas
pub mod FrontLemmas
pub mod Clean
pub mod SentLaws
pub mod TranscriptLaws
