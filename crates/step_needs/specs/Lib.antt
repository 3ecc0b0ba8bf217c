pub mod Sight
pub mod Coming
