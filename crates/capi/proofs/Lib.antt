-- Laws about the C convention.

-- the result list
pub mod Five
-- demand 1: what the host sees of a refusal
pub mod Refusals
