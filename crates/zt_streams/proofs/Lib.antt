pub mod StreamLemmas
pub mod LineLemmas
pub mod JoinLemmas
pub mod FeedLemmas
pub mod ScriptLemmas
