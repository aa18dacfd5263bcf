-- Document 01, "Sense: 0 absent, 1 forward, 2 reversed": a sense as its byte.
use Rattle.std.specs.Prelude.{ℕ, zero, suc, ◌<◌, ◌≡◌}
use Rattle.std.proofs.Common.{refl, arith}
use Rattle.sheet.specs.declared.sense.Named.{Named}
use Rattle.sheet.specs.declared.sense.Named.TheVariants.{Absent, Forward, Reversed, Unknown}

unfoldable pub sense_number : Named → ℕ
sense_number Absent = 0
sense_number Forward = 1
sense_number Reversed = 2
sense_number (Unknown byte) = byte

-- a number below 3 is always said by its name
unfoldable pub is_sense : Named → Type 0
is_sense Absent = Unit {0}
is_sense Forward = Unit {0}
is_sense Reversed = Unit {0}
is_sense (Unknown byte) = 2 < byte

-- the sense of a number
unfoldable pub sense_named : ℕ → Named
sense_named zero = Absent
sense_named (suc zero) = Forward
sense_named (suc (suc zero)) = Reversed
sense_named (suc (suc (suc n))) = Unknown (suc (suc (suc n)))

-- a sense is told by its number
pub sense_again : (k : Named) → is_sense k → sense_named (sense_number k) ≡ k
unfolding is_sense sense_named sense_number
sense_again Absent h = refl
sense_again Forward h = refl
sense_again Reversed h = refl
sense_again (Unknown (suc (suc (suc n)))) h = refl
sense_again (Unknown zero) h = absurd (omega (arith, h))
sense_again (Unknown (suc zero)) h = absurd (omega (arith, h))
sense_again (Unknown (suc (suc zero))) h = absurd (omega (arith, h))
