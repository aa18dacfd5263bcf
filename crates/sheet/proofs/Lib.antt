-- Laws about the definitions of `sheet`, by subject. What two functions' proofs need, and what the layers above cite,
-- stands here.

-- bytes and the numbers that they are
pub mod Bytes
pub mod Reading
-- a list cut up, blocks and the rings in them, and the walks over both
pub mod Cuts
pub mod Blocks
pub mod Items
pub mod Walks
-- the kind, and a plane's numbers
pub mod Planes
-- the checks, and what holds of a sheet that passes them
pub mod Checked
-- version 1 is read as before
pub mod Version1
-- a sheet's ring blocks in another order
pub mod BlockOrder
-- how long a sheet can be
pub mod Sizes

-- how long a sheet can be
