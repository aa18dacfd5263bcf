pub mod Search
pub mod Chosen
pub mod Copies
