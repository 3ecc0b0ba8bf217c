pub mod Control
pub mod Definitions
pub mod Pools
pub mod Entries
pub mod Services
