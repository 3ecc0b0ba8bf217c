pub mod Admission
pub mod Asked
pub mod Client
pub mod Negotiation
pub mod Waiting
