pub mod BlockLemmas
pub mod Cuts
pub mod FirstNames
pub mod Outcomes
pub mod RowLemmas
pub mod Unopposed
pub mod Users
mod Worked
pub mod UserNames
