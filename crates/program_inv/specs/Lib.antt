pub mod Programs
pub mod Table
