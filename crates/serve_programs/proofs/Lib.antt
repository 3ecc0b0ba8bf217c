mod Apart
pub mod LoadedLaws
pub mod MadeLaws
pub mod ServedLaws
pub mod UsedLaws
pub mod AnswerLaws
