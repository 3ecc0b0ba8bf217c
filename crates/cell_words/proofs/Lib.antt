mod Asked
mod Counts
mod Leaf
mod Numbers
pub mod Ranges
mod Worked
