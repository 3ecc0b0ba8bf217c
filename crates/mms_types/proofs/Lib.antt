pub mod Conditions
pub mod Texts
pub mod Precedence
pub mod DataParts
pub mod Greatest
pub mod EqualParts
mod Worked
