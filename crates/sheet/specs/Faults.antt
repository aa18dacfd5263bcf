-- The faults of a layout by their numbers in document 01's table and document 02's.
use Rattle.std.specs.Prelude.{ℕ, Option, Some, None}
use Rattle.sheet.specs.declared.fault.Fault.{Fault}
use Rattle.sheet.specs.declared.fault.Fault.TheVariants.{Blocks, PointCount}

unfoldable pub number_of : Fault → ℕ
number_of Blocks = 5
number_of PointCount = 27

-- 0 where there is none
unfoldable pub fault_number : Option Fault → ℕ
unfolding number_of
fault_number None = 0
fault_number (Some fault) = number_of fault
