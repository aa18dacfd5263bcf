-- Laws about the definitions of `answers`, by subject.

-- lists: tested for any, written over the front of another, and in another order
pub mod AnyOf
pub mod Over
pub mod Permutations
-- the first check that fails, and what it settles
pub mod FirstCheck
pub mod Settled
-- numbers within a limit, and a list of which none is missing
pub mod Finite
pub mod Present
-- the paper's numbers of each answer
pub mod Papers
-- what a call answers, a check at a time
pub mod Calls
-- what a call returns
pub mod Returning
