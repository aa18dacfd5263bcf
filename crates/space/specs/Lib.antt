pub mod Vectors
pub mod Places
