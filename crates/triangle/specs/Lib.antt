pub mod Triangle
pub mod Lists
