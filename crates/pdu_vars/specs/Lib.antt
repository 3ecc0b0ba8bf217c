pub mod Variables
pub mod Results
pub mod ReadWrite
pub mod Named
pub mod Lists
pub mod Services
