pub mod InOrder
pub mod Kept
pub mod Lengths
pub mod Numbered
pub mod Others
pub mod Rows
pub mod Told
mod Worked
