-- Laws about the definitions of `coverage`, by subject. What two functions' proofs need, and what the layers above
-- cite, stands here.

-- turns that serve between two columns, and what a segment adds in a column
pub mod ServingTurns
pub mod Columns
-- how large a winding can be
pub mod Windings
-- the rings in one list, and what they cover
pub mod RingSums
pub mod Parity
pub mod Sides
