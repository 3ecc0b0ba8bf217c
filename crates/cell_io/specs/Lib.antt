pub mod Faults
pub mod Giving
pub mod Held
pub mod Hex
pub mod InMemory
pub mod Lines
pub mod Prefix
