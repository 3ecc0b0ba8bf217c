pub mod Semaphores
pub mod Tokens
