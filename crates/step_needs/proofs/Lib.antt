pub mod Asked
pub mod Lost
pub mod Own
pub mod TimeNeeds
