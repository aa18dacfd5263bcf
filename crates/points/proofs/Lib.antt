-- Laws about the definitions of `points`, by subject. What two functions' proofs need, and what the layers above cite,
-- stands here.

-- points in a list of numbers, a list written from its front on, and a part of a list written anew
pub mod Flat
pub mod InPlace
pub mod InParts
pub mod Anew
-- which points are their coedge's first
pub mod Marks
-- a ring's points moved, and what holds of them
pub mod Moved
pub mod Reach
-- the box, a ring's ends and its joins
pub mod Axes
pub mod Ends
pub mod Seams
-- a ring's segments, one after the other
pub mod RingFolds
-- whole turns, and the grid's columns, by the order
pub mod WholeTurns
pub mod ColumnOrder
-- the grid's order
pub mod GridOrder
-- a column further on, found by halves
pub mod Halving
