pub mod Requests
pub mod Stress
pub mod Counts
