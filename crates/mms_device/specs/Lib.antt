pub mod Served
pub mod Making
pub mod Shared
pub mod Refusals
pub mod Taken
pub mod Callers
pub mod Stepping
pub mod Turns
