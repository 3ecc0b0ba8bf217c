pub mod Digits
mod Kept
pub mod Pairs
pub mod Prefixes
mod Reading
pub mod Texts
pub mod Writing
