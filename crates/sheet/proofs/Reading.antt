-- What is read from bytes, whatever they are, is a value that the format holds and is not -0. A NaN may be read.
use mathlib.Core.Path.{◌≡◌, refl, sym, ap, ◌∙◌, subst}
use mathlib.Core.Bool.{Bool, true, false, not, cond}
use mathlib.Core.List.{List, [], ◌∷◌, map, flat_map}
use Prim.Native.Nat.{ℕ, zero, suc, ◌+◌, ◌*◌, ◌/◌, ◌%◌, ◌^◌, ◌<◌}
use native.Mathlib.Nat.{lt_irrefl, lt_of_lt_of_le, le-add_right, mul-pos, zero-mul}
use native.Mathlib.Omega.{arith}
use lib.Dec.{T, eqb, ltb, leb}
use lib.Pow.{pow_pos}
use lib.ListN.{length, take, drop}
use lib.Ieee.{Float, nan, inf, fin, binary64, prec, low, up, hid, ones, odd, of_fields, of_bits}
use lib.Ieee.Bits.{of_bits-fits}
use lib.Ieee.Digits.{Equals, odd_val}
use lib.Ieee.Fits.{down_pos}
use borrow.Author.Tests.{eqb-false}
use Rattle.leaves.specs.Constants.{plus_zero}
use Rattle.leaves.proofs.Choices.{Clear}
use Rattle.answers.proofs.Permutations.{all_map}
use Rattle.leaves.proofs.Folds.{All, all_append, all_of}
use Rattle.leaves.proofs.Order.{minus_zero}
use Rattle.sheet.specs.Content.{Point, Coedge, ring_points}
use Rattle.sheet.specs.Layout.{big, number_of, number, points, coedge_points, coedge_head, coedge, coedge_parts, ring}

-- ---- a pattern that is not 0 without its sign stands for no zero

above_zero : (x : Float) (a c : ℕ) → 0 < a → Equals x a c → T (not (minus_zero x))
above_zero nan a c h v = tt
above_zero (inf t) a c h v = tt
above_zero (fin false m e) a c h v = tt
above_zero (fin true (suc m) e) a c h v = tt
above_zero (fin true zero e) a c h v = absurd (lt_irrefl 0 (subst (λ (x : ℕ). 0 < x) (sym v ∙ ap (λ (x : ℕ). x * c) (zero-mul (up e)) ∙ zero-mul c) (mul-pos h (down_pos e))))

odd_clear : (s : Bool) (q k : ℕ) → 0 < q → T (not (minus_zero (odd (prec binary64) s q k (low binary64))))
odd_clear s q k h = above_zero (odd (prec binary64) s q k (low binary64)) (q * 2 ^ k) (2 ^ low binary64) (mul-pos h (pow_pos k)) (odd_val (prec binary64) s q k (low binary64))

fields_clear : (s : Bool) (x t : ℕ) → (x ≡ 0 → 0 < t) → T (not (minus_zero (of_fields binary64 s x t)))
unfolding of_fields
fields_clear s zero t h = odd_clear s t 0 (h refl)
fields_clear s (suc x) t h = go (eqb (suc x) (ones binary64)) (eqb t 0)
  where
    go : (b d : Bool) → T (not (minus_zero (cond b (cond d (inf s) nan) (odd (prec binary64) s (hid binary64 + t) x (low binary64)))))
    go true true = tt
    go true false = tt
    go false d = odd_clear s (hid binary64 + t) x (lt_of_lt_of_le (pow_pos 52) (le-add_right (hid binary64) t))

digits_left : (b : ℕ) → (b % 0x8000000000000000 ≡ 0 → ⊥) → b % 0x8000000000000000 / 0x10000000000000 ≡ 0 → 0 < b % 0x10000000000000
digits_left b h e = omega arith

pattern_clear : (b : ℕ) → (b % 2 ^ 63 ≡ 0 → ⊥) → T (not (minus_zero (of_bits binary64 b)))
unfolding of_bits
pattern_clear b h = fields_clear (leb 0x8000000000000000 b) (b % 0x8000000000000000 / 0x10000000000000) (b % 0x10000000000000) (digits_left b h)

-- ---- the numbers

zero_clear : Clear binary64 plus_zero
unfolding of_bits
zero_clear = record { held = of_bits-fits binary64 0; unmarked = tt }

pub bits_clear : (bits : ℕ) → Clear binary64 (number_of bits)
unfolding number_of
bits_clear bits = go (eqb (bits % 2 ^ 63) 0) refl
  where
    go : (b : Bool) → eqb (bits % 2 ^ 63) 0 ≡ b → Clear binary64 (cond b plus_zero (of_bits binary64 bits))
    go true e = zero_clear
    go false e = record { held = of_bits-fits binary64 bits; unmarked = pattern_clear bits (eqb-false (bits % 2 ^ 63) 0 e) }

pub number_clear : (s : List ℕ) → Clear binary64 (number s)
unfolding number
number_clear s = go (ltb (length s) 8)
  where
    go : (b : Bool) → Clear binary64 (cond b plus_zero (number_of (big (take 8 s))))
    go true = zero_clear
    go false = bits_clear (big (take 8 s))

-- ---- the points

abbrev pub ClearPoint : Point → Type 0
ClearPoint p = Clear binary64 p.u × Clear binary64 p.v

points_clear : (n : ℕ) (s : List ℕ) → All ClearPoint (points n s)
unfolding points
points_clear zero s = tt
points_clear (suc n) s = ((number_clear s, number_clear (drop 8 s)), points_clear n (drop 16 s))

parts_clear : (v : ℕ) (ps : List (List ℕ)) → All ClearPoint (ring_points (map (coedge v) ps))
unfolding coedge ring_points flat_map
parts_clear v [] = tt
parts_clear v (p ∷ ps) = all_append ClearPoint (coedge v p).points (ring_points (map (coedge v) ps)) (points_clear (coedge_points v p) (drop (coedge_head v) p)) (parts_clear v ps)

pub ring_clear : (v : ℕ) (b : List ℕ) → All ClearPoint (ring_points (ring v b))
unfolding ring
ring_clear v b = parts_clear v (coedge_parts v b)

-- ---- the deviations

abbrev pub ClearDeviation : Coedge → Type 0
ClearDeviation c = Clear binary64 c.deviation

deviation_clear : (v : ℕ) (p : List ℕ) → ClearDeviation (coedge v p)
unfolding coedge
deviation_clear v p = number_clear p

pub ring_deviations : (v : ℕ) (b : List ℕ) → All ClearDeviation (ring v b)
unfolding ring
ring_deviations v b = all_map ClearDeviation (coedge v) (coedge_parts v b) (all_of (λ (p : List ℕ). ClearDeviation (coedge v p)) (deviation_clear v) (coedge_parts v b))
