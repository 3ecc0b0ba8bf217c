pub mod Pieces
pub mod Uploads
