pub mod PlanLemmas
pub mod ReadLemmas
