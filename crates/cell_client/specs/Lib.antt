pub mod Areas
pub mod Association
pub mod Effects
pub mod Facts
pub mod Meant
pub mod Reads
pub mod Requests
pub mod Telling
