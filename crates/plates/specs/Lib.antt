-- What the contracts of `plates` cite.
pub mod Answer
