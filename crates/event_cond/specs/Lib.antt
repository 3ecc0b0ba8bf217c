pub mod Conditions
pub mod Deletion
pub mod Evaluations
pub mod Kept
pub mod Multiples
pub mod Services
pub mod Skips
pub mod Transitions
