pub mod Applied
pub mod Bits
pub mod Places
pub mod Putting
mod Worked
pub mod LiftedLaws
pub mod SetLaws
pub mod Laid
