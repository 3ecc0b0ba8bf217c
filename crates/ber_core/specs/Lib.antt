pub mod Part
pub mod Element
pub mod Reading
pub mod Refusal
pub mod Leaf
pub mod Spelling
pub mod Respelling
