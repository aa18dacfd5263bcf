pub mod Frame
pub mod Framing
pub mod Parts
pub mod Stages
pub mod Seam
