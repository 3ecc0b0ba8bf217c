pub mod Counting
pub mod Freeing
pub mod Finding
pub mod Taking
pub mod Losing
pub mod Serving
pub mod Bounding
pub mod Unowned
pub mod Marked
pub mod Places
pub mod Ends
pub mod Kept
pub mod Least
mod Worked
