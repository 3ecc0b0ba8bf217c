pub mod ServedLaws
pub mod AnswerLaws
