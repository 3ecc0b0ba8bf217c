pub mod Lifting
pub mod Placing
pub mod Rooms
pub mod Tasks
