pub mod Settling
pub mod Skipping
pub mod Sound
pub mod Ticks
