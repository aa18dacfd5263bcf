-- Document 01, "`sample_parameter`, 16: an end not finite or n above 16", and `sample_parameter` of uv.rs, whose ends
-- are answered by cases.
use Rattle.std.specs.Prelude.{Bool, cond, ◌||◌, [], ◌∷◌, ℕ, eqb, ltb, pos, Float}
use Rattle.std.specs.Float.{binary64}
use Rattle.std.specs.Float.Ieee.{of_bits, of_int, add, sub, mul, div}
use Rattle.leaves.specs.Bounds.{smaller_of, larger_of, clamp_of}
use Rattle.leaves.specs.Constants.{plus_zero}
use Rattle.answers.specs.Outcome.{check, first, Numbers, settled}
use Rattle.answers.specs.Answers.{valued}
use Rattle.answers.specs.Limits.{not_finite}

-- SAMPLES: a curve is sampled at 0 to 16
abbrev pub samples : ℕ
samples = 16

-- 16 as a number
abbrev pub sixteen : Float
sixteen = of_bits binary64 0x4030000000000000

unfoldable pub sample_wrong : Float → Float → ℕ → Bool
sample_wrong a b n = not_finite a || not_finite b || ltb samples n

-- (a + (b − a) × n / 16) clamped to the ends
unfoldable pub between : Float → Float → ℕ → Float
unfolding add sub mul div of_int
between a b n = clamp_of (add binary64 a (div binary64 (mul binary64 (sub binary64 b a) (of_int binary64 (pos n))) sixteen)) (smaller_of a b) (larger_of a b)

unfoldable pub sampled : Float → Float → ℕ → Float
unfolding between
sampled a b n = cond (eqb n 0) a (cond (eqb n samples) b (between a b n))

unfoldable pub sample_parameter_of : Float → Float → ℕ → Numbers
unfolding sample_wrong sampled
sample_parameter_of a b n = settled (first (check 16 (sample_wrong a b n) ∷ [])) (valued (sampled a b n) plus_zero plus_zero)
