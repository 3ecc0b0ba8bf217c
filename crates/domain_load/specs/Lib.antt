pub mod Domains
pub mod Kept
pub mod Loading
pub mod Segmented
pub mod Standing
pub mod Used
pub mod UserNames
