pub mod Counting
pub mod Rule
pub mod Served
pub mod Items
