pub mod Counted
pub mod Fitting
pub mod Rising
pub mod Rows
pub mod Selected
pub mod Sound
pub mod Spelled
pub mod Tagged
pub mod Told
pub mod Unopposed
pub mod Walked
mod Worked
