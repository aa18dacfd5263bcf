-- Numbers as text, in ASCII.
use Rattle.std.specs.Prelude.{cond, List, [], ◌∷◌, ◌++◌, ℕ, zero, suc, ◌+◌, ◌/◌, ◌%◌, ltb}

-- the code of a digit below 16: `0` to `9`, then `A` to `F`
unfoldable pub digit : ℕ → ℕ
digit d = cond (ltb d 10) (48 + d) (55 + d)

-- the last k hexadecimal digits of n, the most significant first
unfoldable pub digits : ℕ → ℕ → List ℕ
digits zero n = []
digits (suc k) n = digits k (n / 16) ++ (digit (n % 16) ∷ [])

-- "16 hexadecimal digits"
abbrev pub hexadecimal : ℕ → List ℕ
hexadecimal n = digits 16 n

-- the decimal digits of n, where n is at most k: one below ten, and otherwise those of n / 10 with the last one behind
-- them
unfoldable pub tens : ℕ → ℕ → List ℕ
tens zero n = digit n ∷ []
tens (suc k) n = cond (ltb n 10) (digit n ∷ []) (tens k (n / 10) ++ (digit (n % 10) ∷ []))

-- the decimal digits of n, with no zero in front
unfoldable pub decimal : ℕ → List ℕ
decimal n = tens n n
