pub mod BigEndian
pub mod Page
