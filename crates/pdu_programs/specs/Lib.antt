pub mod Texts
pub mod Download
pub mod Upload
pub mod Attributes
pub mod Services
pub mod Invocations
