-- Laws about the definitions of `chart`, by subject, and its theorems.

-- rings normalised in a copy; from the rings to what the search takes, and what it chooses
pub mod Normalising
pub mod Choosing
-- the search finds the clearest covered grid point
pub mod Clearest
-- rules 7 and 8 over the rings
pub mod Crossings
pub mod Clearances
-- the outcome, and the rows of the table
pub mod Outcomes
-- the grid point by the seam, and the call
pub mod Finding
pub mod Calling
-- the rings of a sheet in another order
pub mod AnyOrder
-- demand 1: refusals
pub mod Refusals
-- demand 3: the grid, the order, groups
pub mod GridRule
pub mod Reorder
pub mod Groups
-- document 01's marked rows
pub mod Plates
