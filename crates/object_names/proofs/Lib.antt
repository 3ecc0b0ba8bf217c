pub mod ByName
pub mod Distinct
pub mod Fewer
pub mod Found
pub mod Gathered
pub mod InOrder
pub mod KeysInOrder
pub mod Listed
pub mod Mentioned
pub mod Ordered
pub mod Places
pub mod Ranked
pub mod NameOrder
pub mod Scopes
pub mod Walked
mod Worked
pub mod Changed
pub mod Counted
