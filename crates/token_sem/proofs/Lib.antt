pub mod Keeping
pub mod Taking
pub mod Losing
pub mod Least
pub mod Serving
pub mod Unowned
pub mod Positions
pub mod Ranked
pub mod Tabled
pub mod OneByOne
pub mod LosingOne
mod Worked
