pub mod Domains
pub mod Loads
pub mod Tables
