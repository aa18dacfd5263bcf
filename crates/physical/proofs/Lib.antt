-- Laws about the definitions of `physical`, by subject.

-- the least distance in space, and check 15 by it
pub mod Nearness
pub mod Threshold
-- the plane's numbers and axes
pub mod PlaneNumbers
