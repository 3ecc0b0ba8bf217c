pub mod Again
pub mod Changes
pub mod Due
pub mod Lost
pub mod Nexts
pub mod Settling
pub mod Steps
pub mod Ticked
pub mod Turns
mod Worked
