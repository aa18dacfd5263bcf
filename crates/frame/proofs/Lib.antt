-- Laws about the definitions of `frame`, by subject.

-- rings that stand one behind the other in one list of points
pub mod Parting
-- how many points there are
pub mod Counting
-- rules 1 and 2 on every ring
pub mod Preparing
-- check 13 on marked rings
pub mod Marking
-- a sheet's frame, and checks 11 to 13, by its moved rings
pub mod SheetFrame
-- the scales are finite
pub mod FiniteScales
-- the seam
pub mod LaidOut
-- the exit of a `?`
pub mod PassedOn
