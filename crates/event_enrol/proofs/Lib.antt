pub mod FirstKeys
pub mod Unopposed
pub mod Indexed
pub mod Kept
pub mod Told
mod Worked
