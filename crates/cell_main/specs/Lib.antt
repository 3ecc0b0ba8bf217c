pub mod Failure
pub mod Ends
