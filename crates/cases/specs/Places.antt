-- The places of a list of f64, by their bits.
use Rattle.std.specs.Prelude.{ℕ, zero, suc, ◌+◌, ◌*◌, Bool, not, ◌&&◌, List, [], ◌∷◌, ◌++◌, eqb, from_bits, is_nan, to_bits, Float}
use Rattle.std.specs.Float.{binary64}
use Rattle.std.specs.List.{count_by, enumerate_from}
use Rattle.cases.specs.BigEndian.{big}

-- the first n numbers of s, each by its eight bytes
unfoldable pub loaded : ℕ → List ℕ → List Float
loaded zero s = []
loaded (suc n) s = loaded n s ++ (from_bits binary64 (big s (8 * n) 8) ∷ [])

-- x is a number, and has these bits
unfoldable pub shown : Float → ℕ → Bool
shown x bits = not (is_nan x) && eqb (to_bits binary64 x) bits

-- how many of xs are not shown by the eight bytes of s that stand for their place
unfoldable pub wrong_in : List Float → List ℕ → ℕ
wrong_in xs s = count_by (λ (p : ℕ × Float). not (shown p.1 (big s (8 * p.0) 8))) (enumerate_from 0 xs)

-- the sum of each number's bits times its weight: that of the first is w, and each that follows weighs two more
unfoldable pub weighted : ℕ → List Float → ℕ
weighted w [] = 0
weighted w (x ∷ xs) = w * to_bits binary64 x + weighted (suc (suc w)) xs
