pub mod Vertices
pub mod Left
