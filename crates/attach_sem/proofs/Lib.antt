pub mod Going
pub mod Linked
pub mod Following
mod Worked
