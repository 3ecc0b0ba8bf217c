pub mod Semaphore
pub mod Named
pub mod Entries
