pub mod ByName
pub mod Multiples
pub mod Orders
pub mod Passing
pub mod Placed
pub mod Rows
pub mod Soonest
pub mod Sound
pub mod Unopposed
pub mod Walked
mod Worked
