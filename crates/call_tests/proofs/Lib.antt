pub mod Asked
pub mod Newcomers
