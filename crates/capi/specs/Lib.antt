pub mod Convention
pub mod Demand
