-- What the crossings of all rings cover, from the sums or the flips of the code. Where the chart is not periodic they
-- are a number of rings, n ≥ 0, and n covers what 1 covers where n is odd, and what 0 covers where it is even: an odd n
-- is above 0. Each ring that a point is inside of flips whether n is odd.
use mathlib.Core.Path.{◌≡◌, refl, sym, ap, ◌∙◌}
use mathlib.Core.Bool.{Bool, true, false, cond, xor}
use mathlib.Core.List.{List, [], ◌∷◌, foldl}
use Prim.Native.Nat.{ℕ, zero, suc, ◌+◌, ◌/◌, ◌%◌, ◌<◌}
use native.Mathlib.Omega.{arith}
use borrow.Author.Tests.{eqb-true, lt-ltb}
use lib.Dec.{eqb}
use lib.IntN.{ℤ, pos, ◌+ℤ◌}
use lib.Ieee.{Float}
use Rattle.sheet.specs.Content.{Point}
use Rattle.inside.specs.Inside.{inside_of}
use Rattle.inside.specs.Lines.{by_columns, by_rows, in_rows}
use Rattle.frame.specs.declared.framing.Frame.{Frame}
use Rattle.coverage.specs.Coverage.{winding_of, crossing, crossings, oddℤ, on_side, covered_by, covered}

-- ---- odd or even

abbrev one_of : Bool → ℤ
one_of t = cond t (pos 1) (pos 0)

odd_next : (n : ℕ) → oddℤ (pos (n + 1)) ≡ xor (oddℤ (pos n)) true
unfolding oddℤ xor
odd_next zero = refl
odd_next (suc zero) = refl
odd_next (suc (suc n)) =
    let e : suc (suc n) % 2 ≡ n % 2 = omega arith in
    let f : (suc (suc n) + 1) % 2 ≡ (n + 1) % 2 = omega arith in
    rw (e, f) (odd_next n)

odd_same : (n : ℕ) → oddℤ (pos (n + 0)) ≡ xor (oddℤ (pos n)) false
unfolding oddℤ xor
odd_same n = let e : n + 0 ≡ n = omega arith in rw e (at (eqb (n % 2) 1))
  where
    at : (t : Bool) → t ≡ xor t false
    at true = refl
    at false = refl

module _ (band : Bool) (sense : ℕ) where
  -- one ring covers what 1 crossing does, and no ring nothing
  pub one_or_none : (t : Bool) → covered_by band sense (one_of t) ≡ cond t (covered_by band sense (pos 1)) false
  unfolding covered_by oddℤ
  one_or_none true = refl
  one_or_none false = refl

  covered_odd : (n : ℕ) (t : Bool) → t ≡ oddℤ (pos n) → covered_by band sense (pos n) ≡ covered_by band sense (one_of t)
  unfolding covered_by oddℤ on_side
  covered_odd n true e =
      let o : n % 2 ≡ 1 = eqb-true (n % 2) 1 (sym e) in
      rw (← e, lt-ltb 0 n (omega arith))
  covered_odd n false e = rw (← e)

  module _ (period : Float) (p : Point) where
    -- what so many rings and the crossings of further ones cover
    abbrev by_count : ℕ → List (List Point) → Bool
    by_count n rings = covered_by band sense (foldl (λ (m : ℤ) (ring : List Point). m +ℤ crossing false period p ring) (pos n) rings)

    -- and by the flips of the further ones
    abbrev by_flips : Bool → List (List Point) → Bool
    by_flips t rings = covered_by band sense (one_of (foldl (λ (t : Bool) (ring : List Point). xor t (inside_of ring p)) t rings))

    covered_flips : (n : ℕ) (t : Bool) (rings : List (List Point)) → t ≡ oddℤ (pos n) → by_count n rings ≡ by_flips t rings
    unfolding crossing
    covered_flips n t [] e = covered_odd n t e
    covered_flips n t (ring ∷ rings) e =
        by (inside_of ring p)
        (covered_flips (n + 1) (xor t true) rings (ap (λ (b : Bool). xor b true) e ∙ sym (odd_next n)))
        (covered_flips (n + 0) (xor t false) rings (ap (λ (b : Bool). xor b false) e ∙ sym (odd_same n)))
      where
        by : (s : Bool) → by_count (n + 1) rings ≡ by_flips (xor t true) rings → by_count (n + 0) rings ≡ by_flips (xor t false) rings
            → covered_by band sense (foldl (λ (m : ℤ) (ring : List Point). m +ℤ crossing false period p ring) (pos n +ℤ one_of s) rings) ≡ by_flips (xor t s) rings
        by true h k = h
        by false h k = k

-- ---- the grid's order, and by rows

pub same_point : (k : ℕ) → k < 961 → by_rows (in_rows k) ≡ by_columns k
unfolding by_rows by_columns
same_point k h =
    let e : in_rows k % 31 ≡ k / 31 = omega arith in
    let f : in_rows k / 31 ≡ k % 31 = omega arith in
    rw (e, f)

-- ---- what is covered

module _ (f : Frame) (sense : ℕ) (rings : List (List Point)) (p : Point) where
  -- by the sum of the windings
  pub covered_winding : f.periodic ≡ true → covered_by f.band sense (foldl (λ (n : ℤ) (ring : List Point). n +ℤ winding_of f.period p ring) (pos 0) rings) ≡ covered f sense rings p
  unfolding covered crossings crossing
  covered_winding e = rw e

  -- by the flips
  pub covered_inside : f.periodic ≡ false → covered_by f.band sense (one_of (foldl (λ (t : Bool) (ring : List Point). xor t (inside_of ring p)) false rings)) ≡ covered f sense rings p
  unfolding covered crossings
  covered_inside e = sym (covered_flips f.band sense f.period p 0 false rings refl) ∙ rw e
