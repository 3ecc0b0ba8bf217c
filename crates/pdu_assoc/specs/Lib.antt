pub mod Initiate
pub mod ServiceErrors
pub mod Status
pub mod Reject
pub mod Heard
pub mod NameList
pub mod Services
