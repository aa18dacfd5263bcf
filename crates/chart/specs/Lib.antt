pub mod Chart
pub mod Found
pub mod Stages
pub mod Demand
pub mod Plates
