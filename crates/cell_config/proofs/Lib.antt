pub mod Documents
pub mod Holding
pub mod Walks
mod Worked
