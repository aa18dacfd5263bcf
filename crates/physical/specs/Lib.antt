pub mod Space
pub mod Images
pub mod Physical
pub mod Plane
pub mod Stages
