-- Laws about the definitions of `round_fallback`, by subject, and its theorems.

-- the least and the greatest height
pub mod Extremes
-- angles in order
pub mod Preceding
pub mod Sorting
-- corner angles that are kept
pub mod Kept
-- demand 1: refusals
pub mod Refusals
