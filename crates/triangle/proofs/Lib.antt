-- Theorems on the definitions of `triangle`.

-- demand 1: refusals
pub mod Refusals
pub mod ListRefusals
