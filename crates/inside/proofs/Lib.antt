-- Laws about the definitions of `inside`, by subject. What two functions' proofs need, and what the layers above cite,
-- stands here.

-- the grid's lines and what is below them, a cell for each of its points
pub mod Ascending
pub mod Cells
pub mod Flips
-- a ring's edges, one after the other
pub mod Insides
