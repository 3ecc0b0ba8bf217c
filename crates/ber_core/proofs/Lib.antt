pub mod Numbers
pub mod Definites
pub mod Closed
pub mod Elements
pub mod Spelled
pub mod DefiniteRefused
pub mod RefusedWithin
pub mod Refused
pub mod Written
pub mod Leaves
pub mod Shortest
pub mod Respelled
pub mod Short
pub mod Lifted
mod Worked
