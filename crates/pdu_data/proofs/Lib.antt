pub mod Rows
pub mod DataLaws
pub mod TypeLaws
pub mod DeepLaws
mod Worked
