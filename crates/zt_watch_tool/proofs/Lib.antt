pub mod CarryLemmas
pub mod WatchLemmas
