-- Laws about the definitions of `vertex_fallback`, by subject, and its theorems.

-- a list's places, and the first corner that serves
pub mod Serving
-- demand 1: refusals
pub mod Refusals
