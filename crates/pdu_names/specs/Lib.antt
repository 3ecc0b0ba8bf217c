pub mod Editions
pub mod Said
pub mod AgainLaws
pub mod Alike
pub mod Spells
pub mod Kinds
pub mod Gives
pub mod Names
