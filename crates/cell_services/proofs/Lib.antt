pub mod AlsoLaws
pub mod AreaLaws
pub mod PlanLaws
pub mod TimeLaws
mod Worked
pub mod AreaTableLaws
