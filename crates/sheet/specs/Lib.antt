pub mod Content
pub mod Kinds
pub mod Senses
pub mod Layout
pub mod Checks
pub mod Faults
pub mod Writing
pub mod Version1
