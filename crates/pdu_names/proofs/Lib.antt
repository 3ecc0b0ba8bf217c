pub mod Lawful
pub mod KindLaws
mod Worked
