pub mod Answered
pub mod Guarded
