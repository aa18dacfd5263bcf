-- What the contracts of `facepoint` cite.
pub mod Answer
pub mod Line
