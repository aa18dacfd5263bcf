pub mod Lists
pub mod Outcome
pub mod Limits
pub mod Answers
pub mod Returned
