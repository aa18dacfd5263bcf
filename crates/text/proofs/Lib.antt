-- Laws about numbers as text.
pub mod Fronts
pub mod Lines
pub mod Tens
