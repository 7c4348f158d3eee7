pub mod MadeLemmas
pub mod CarryLemmas
pub mod DriveLemmas
pub mod CompleteLemmas
pub mod PrintLemmas
pub mod StartLemmas
pub mod AnswerLemmas
