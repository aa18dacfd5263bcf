-- What the contracts of `cases` cite.
pub mod BigEndian
pub mod Lengths
pub mod Places
pub mod Reading
pub mod Record
