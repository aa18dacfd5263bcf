pub mod Cylinder
pub mod Sorted
