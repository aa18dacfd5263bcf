-- The definitions that the contracts of `steps` cite, in the order of document 01, "After the picker".
pub mod Sample
pub mod Direction
pub mod Placed
