pub mod Passes
pub mod Crossing
