pub mod Deletions
pub mod InLaws
pub mod AnswerLaws
pub mod GuardLaws
