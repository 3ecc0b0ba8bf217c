pub mod Coded
pub mod Deadlines
pub mod Meant
pub mod Parts
pub mod Sound
pub mod Ticks
