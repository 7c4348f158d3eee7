pub mod BesideLemmas
pub mod PollLemmas
pub mod WatchLemmas
