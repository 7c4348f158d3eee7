pub mod DealLemmas
pub mod OrderLemmas
pub mod WorkLemmas
pub mod LineLemmas
