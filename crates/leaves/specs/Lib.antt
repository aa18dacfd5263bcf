-- The definitions that the contracts of `leaves` cite, in the order of document 01, "Number leaves".
pub mod Constants
pub mod Root
pub mod Engine
pub mod Hypot
pub mod Keys
pub mod Round
pub mod Bounds
pub mod Wrap
pub mod Nearest
