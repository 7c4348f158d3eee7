pub mod ListLemmas
pub mod ItemLemmas
pub mod ExactNames
pub mod ExactLists
pub mod ExactSouth
pub mod LineLaws
pub mod ReadingLaw
