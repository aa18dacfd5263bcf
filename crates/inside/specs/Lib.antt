pub mod Inside
pub mod Lines
