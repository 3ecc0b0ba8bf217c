pub mod Apart
pub mod Cells
pub mod Guarded
pub mod InPlace
pub mod NewValues
pub mod Owners
pub mod Unopposed
pub mod Writing
