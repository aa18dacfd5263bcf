pub mod Coverage
pub mod Lines
