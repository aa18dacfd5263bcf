-- Laws about the definitions of `clearance`, by subject.

-- the least distance to a ring's segments and to those of many rings, and the same by keys
pub mod LeastDistance
pub mod ByKeys
-- the least key of segments, and when a scan may stop
pub mod Stops
-- rule 8's least over the rings, from one list
pub mod ByList
