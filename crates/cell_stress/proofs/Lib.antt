pub mod Made
pub mod Counted
pub mod Lengths
pub mod Sums
pub mod Worked
pub mod Interleaved
pub mod Heard
