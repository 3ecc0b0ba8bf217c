pub mod Data
pub mod Types
pub mod Deep
