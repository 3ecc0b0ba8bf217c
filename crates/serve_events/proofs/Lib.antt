pub mod DefiningLaws
pub mod MovingLaws
pub mod OthersLaws
pub mod Placed
pub mod Turned
pub mod Worked
