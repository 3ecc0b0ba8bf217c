pub mod Pools
pub mod Marks
