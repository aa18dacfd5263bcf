-- Laws about the numbers and the lists of recorded calls, and about what is read.
pub mod Bytes
pub mod Places
pub mod Buffers
pub mod Faults
