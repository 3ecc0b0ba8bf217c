pub mod Times
pub mod Conditions
pub mod Entries
pub mod Journals
pub mod Changes
pub mod Enrollments
pub mod Services
