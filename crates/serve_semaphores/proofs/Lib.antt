pub mod DefiningLaws
pub mod OthersLaws
pub mod ServedLaws
pub mod TokenLaws
pub mod AnswerLaws
