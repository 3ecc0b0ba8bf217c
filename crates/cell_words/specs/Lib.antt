pub mod Words
pub mod Parser
pub mod Read
