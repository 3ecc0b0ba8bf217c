pub mod Coded
pub mod Events
pub mod Least
pub mod Lists
pub mod Next
pub mod Nexts
pub mod Steps
pub mod Ticked
mod Worked
