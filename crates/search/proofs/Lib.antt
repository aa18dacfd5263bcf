-- Laws about the definitions of `search`, by subject.

-- a candidate's visits to the grid's points
pub mod Visits
-- the leader of the search meets a grid point
pub mod Led
-- the choice, a column at a time
pub mod Chosen
-- copies that serve between two columns
pub mod ServingCopies
pub mod Renewing
