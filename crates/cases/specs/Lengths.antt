-- What a head says.
use Rattle.std.specs.Prelude.{ℕ}

-- the sheet's length, the phase and the list's length
pub record Lengths : Type 0 where
  pub bytes : ℕ
  pub phase : ℕ
  pub places : ℕ
