-- Laws about the places of a list: one place more is loaded or added in.
use Rattle.std.proofs.Common.{◌≡◌, ℕ, suc, ◌+◌, ◌*◌, ◌<◌, ◌≤◌, List, [], ◌∷◌, ◌++◌, length, get_or, take, add-one, arith}
use lib.Ieee.{Float, nan, binary64, of_bits, to_bits}
use Rattle.cases.specs.BigEndian.{big}
use Rattle.std.proofs.Math.Seq.{take-suc, length-take-le}
use Rattle.cases.specs.Places.{loaded, weighted}

-- the numbers of one place more
pub loaded_more : (k : ℕ) (s : List ℕ) → loaded (k + 1) s ≡ loaded k s ++ (of_bits binary64 (big s (8 * k) 8) ∷ [])
unfolding loaded
loaded_more k s = rw (add-one k)

weighted_append : (w : ℕ) (xs : List Float) (x : Float) → weighted w (xs ++ (x ∷ [])) ≡ weighted w xs + (w + 2 * length xs) * to_bits binary64 x
unfolding weighted
weighted_append w [] x = omega arith
weighted_append w (y ∷ xs) x = rw (weighted_append (suc (suc w)) xs x) (omega arith)

-- the sum of one place more
pub weigh_more : (list : List Float) (k : ℕ) → k < length list → weighted 1 (take (k + 1) list) ≡ weighted 1 (take k list) + (2 * k + 1) * to_bits binary64 (get_or list k nan)
weigh_more list k h =
    let le : k ≤ length list = omega arith in rw (add-one k, take-suc list k nan h, weighted_append, length-take-le k list le) (omega arith)
