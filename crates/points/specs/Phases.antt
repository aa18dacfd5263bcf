-- Document 01, a phase is 0 or 1: a phase as its number.
use Rattle.std.specs.Prelude.{ℕ, zero, suc, ◌<◌, ◌≡◌}
use Rattle.std.proofs.Common.{refl, arith}
use Rattle.points.specs.declared.phase.Named.{Named}
use Rattle.points.specs.declared.phase.Named.TheVariants.{First, Second, Unknown}

unfoldable pub phase_number : Named → ℕ
phase_number First = 0
phase_number Second = 1
phase_number (Unknown number) = number

-- a number below 2 is always said by its name
unfoldable pub is_phase : Named → Type 0
is_phase First = Unit {0}
is_phase Second = Unit {0}
is_phase (Unknown number) = 1 < number

-- the phase of a number
unfoldable pub phase_named : ℕ → Named
phase_named zero = First
phase_named (suc zero) = Second
phase_named (suc (suc n)) = Unknown (suc (suc n))

-- a phase is told by its number
pub phase_again : (k : Named) → is_phase k → phase_named (phase_number k) ≡ k
unfolding is_phase phase_named phase_number
phase_again First h = refl
phase_again Second h = refl
phase_again (Unknown (suc (suc n))) h = refl
phase_again (Unknown zero) h = absurd (omega (arith, h))
phase_again (Unknown (suc zero)) h = absurd (omega (arith, h))
