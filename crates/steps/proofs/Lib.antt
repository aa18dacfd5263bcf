-- Laws about the definitions of `steps`, by subject, and its theorems.

-- the ends of a curve's parameters
pub mod Sampling
-- demand 1: refusals
pub mod Refusals
