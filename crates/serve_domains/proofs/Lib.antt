pub mod Answered
pub mod DomainLaws
pub mod LoadLaws
pub mod NumberLaws
pub mod UserLaws
mod Worked
pub mod AnswerLaws
