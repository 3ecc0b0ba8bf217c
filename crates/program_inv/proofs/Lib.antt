pub mod Free
pub mod Twice
pub mod Unopposed
mod Worked
