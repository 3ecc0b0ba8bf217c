pub mod AnswerLaws
pub mod Events
pub mod Tables
pub mod Told
pub mod Turns
