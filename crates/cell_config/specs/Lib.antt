pub mod Rows
pub mod Cells
pub mod Rules
pub mod Said
pub mod Seen
