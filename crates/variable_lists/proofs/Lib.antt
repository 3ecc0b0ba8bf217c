pub mod Unopposed
