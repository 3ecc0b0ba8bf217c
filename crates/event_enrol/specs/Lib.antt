pub mod Deleted
pub mod Enrolments
pub mod Going
pub mod Groups
