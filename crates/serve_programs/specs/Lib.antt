pub mod Programs
pub mod Users
