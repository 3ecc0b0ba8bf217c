pub mod Holding
pub mod PartsAfter
pub mod Rows
pub mod Configured
mod Worked
mod WorkedRequests
pub mod Sent
pub mod Needed
pub mod Others
pub mod Scoping
pub mod Shown
pub mod Words
pub mod Found
pub mod Changed
pub mod Tabling
