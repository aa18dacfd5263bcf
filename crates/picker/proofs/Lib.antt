-- Laws about the definitions of `picker`, by subject, and its theorems.

-- one pick of which both are instances; the calls
pub mod Picks
pub mod Calling
-- the rings in another order, and their images with them
pub mod Carried
pub mod AnyOrder
-- demand 1: refusals
pub mod Refusals
-- demand 3: the grid, the order, groups, and the whole
pub mod GridRule
pub mod Reorder
pub mod Groups
pub mod Demand3
-- document 01's plates
pub mod Plates
