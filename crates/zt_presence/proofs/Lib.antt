pub mod TableLemmas
pub mod PollLemmas
