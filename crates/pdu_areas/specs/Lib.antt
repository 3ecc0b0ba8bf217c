pub mod Services
pub mod Joined
pub mod Areas
pub mod Gives
