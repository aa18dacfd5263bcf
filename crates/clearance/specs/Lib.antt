pub mod Clearance
pub mod SegmentLists
pub mod Nearest
