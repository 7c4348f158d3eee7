pub mod JudgingLemmas
pub mod CheckingLemmas
pub mod ClauseLemmas
pub mod PlaceLemmas
pub mod TurnLemmas
pub mod VerdictLemmas
