pub mod ReadLines
pub mod Right
pub mod CarryLemmas
pub mod Printed
pub mod RunLemmas
pub mod CompleteLemmas
pub mod MakeLemmas
pub mod MadeLemmas
