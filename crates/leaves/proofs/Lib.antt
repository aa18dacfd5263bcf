-- Laws about the definitions of `leaves`, by subject. What two functions' proofs need, and what the layers above cite,
-- stands here.

-- values of a format, their order, also as signed fractions, their signs, the operations that keep both, a NaN's
-- patterns
pub mod Values
pub mod Order
pub mod Fractions
pub mod Signs
pub mod Scaling
pub mod Monotone
pub mod Magnitudes
pub mod Patterns
-- smaller-of and larger-of; folds in any order
pub mod Choices
pub mod Folds
-- the root: whole numbers first, then the rounding, then the theorems
pub mod Squares
pub mod WholeRoots
pub mod DigitSteps
pub mod Packing
pub mod Rounding
pub mod PackedRoots
pub mod RootCases
pub mod Closest
pub mod Roots
pub mod RootOrder
-- round, hypotenuses and keys, limits, the wrap, constants, worked examples
pub mod Wholes
pub mod Hypotenuses
pub mod Limits
pub mod Remainders
pub mod Wraps
pub mod ConstantBits
pub mod Examples
