pub mod Variables
