pub mod ResultLemmas
pub mod NumberLemmas
pub mod FieldLemmas
pub mod SettledLemmas
pub mod Exact
pub mod ExactParts
pub mod ExactFields
