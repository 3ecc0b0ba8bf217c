pub mod Rows
pub mod Start
pub mod Access
pub mod Bounds
pub mod Definitions
pub mod NewValues
pub mod Truth
