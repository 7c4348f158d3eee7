pub mod Verdicts
pub mod Totals
pub mod Clauses
pub mod Judging
pub mod Checking
pub mod Laws
pub mod Turns
