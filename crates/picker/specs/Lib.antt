pub mod Answered
pub mod Images
pub mod ImagePick
pub mod PlanePick
pub mod Stages
pub mod Demand
pub mod Plates
