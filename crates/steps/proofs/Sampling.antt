-- The nth sample: a call that is not refused has n at most 16, and between finite ends the sample 0 is the first end
-- and the sample 16 the second.
use mathlib.Core.Path.{◌≡◌, refl, ◌∙◌}
use mathlib.Core.Bool.{false, ◌||◌}
use mathlib.Core.List.{[]}
use Prim.Native.Nat.{ℕ, ◌≤◌}
use lib.Dec.{ltb}
use lib.Ieee.{Float}
use borrow.Author.Tests.{ltb-false}
use Rattle.leaves.specs.Constants.{plus_zero}
use Rattle.answers.proofs.AnyOf.{neither}
use Rattle.answers.proofs.Settled.{settled_later, settled_empty}
use Rattle.answers.specs.Answers.{valued}
use Rattle.answers.specs.Limits.{not_finite}
use Rattle.steps.specs.Sample.{samples, sample_wrong, sampled, sample_parameter_of}

pub sample_right : (a b : Float) (n : ℕ) → sample_wrong a b n ≡ false → n ≤ 16
unfolding sample_wrong
sample_right a b n e = ltb-false samples n (neither (not_finite a || not_finite b) (ltb samples n) e).1

module _ (a b : Float) where
  -- a call that is not refused answers the sample
  pub sample_answered : (n : ℕ) → sample_wrong a b n ≡ false → sample_parameter_of a b n ≡ valued (sampled a b n) plus_zero plus_zero
  unfolding sample_parameter_of
  sample_answered n e = settled_later 16 (sample_wrong a b n) [] (valued (sampled a b n) plus_zero plus_zero) e ∙ settled_empty (valued (sampled a b n) plus_zero plus_zero)

  module _ (finite_a : not_finite a ≡ false) (finite_b : not_finite b ≡ false) where
    ends_right : (n : ℕ) → ltb samples n ≡ false → sample_wrong a b n ≡ false
    unfolding sample_wrong
    ends_right n e = λ i. finite_a i || finite_b i || e i

    pub sample_start : sample_parameter_of a b 0 ≡ valued a plus_zero plus_zero
    unfolding sampled
    sample_start = sample_answered 0 (ends_right 0 refl)

    pub sample_end : sample_parameter_of a b 16 ≡ valued b plus_zero plus_zero
    unfolding sampled
    sample_end = sample_answered 16 (ends_right 16 refl)
