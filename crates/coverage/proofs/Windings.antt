-- What a ring's winding is and how large it can be. A segment adds 1, 0 or -1, so a winding is at most the ring's count
-- of points in magnitude.
use mathlib.Core.Path.{◌≡◌, refl, sym, ap, ◌∙◌}
use mathlib.Core.Bool.{Bool, true, false, cond, ◌&&◌, xor}
use mathlib.Core.List.{List, [], ◌∷◌, foldl}
use Prim.Native.Nat.{◌+◌, ◌≤◌}
use native.Mathlib.Omega.{arith}
use lib.IntN.{ℤ, pos, negsuc, nat_abs, ◌+ℤ◌, +ℤ_assoc, +ℤ_idr}
use lib.Ieee.{Float, binary64, add, sub, mul, div, lt}
use lib.ListN.{length}
use Rattle.std.proofs.lemmas.Int.{ints}
use Rattle.sheet.specs.Content.{Point}
use Rattle.points.proofs.RingFolds.{segments_count}
use Rattle.points.specs.Segments.{Segment, segments, gained, middle}
use Rattle.points.specs.Turns.{turns}
use Rattle.coverage.specs.Coverage.{step, step_of, winding_of}

-- ---- a segment, a ring

one_at_most : (c d : Bool) → nat_abs (cond c (cond d (pos 1) (negsuc 0)) (pos 0)) ≤ 1
one_at_most true true = omega arith
one_at_most true false = omega arith
one_at_most false d = omega arith

at_small : (pv au av bu bv w : Float) → nat_abs (step pv au av bu bv w) ≤ 1
unfolding step
at_small pv au av bu bv w = one_at_most (xor (lt w au) (lt w bu) && lt (add binary64 av (div binary64 (mul binary64 (sub binary64 bv av) (sub binary64 w au)) (sub binary64 bu au))) pv) (lt au bu)

step_small : (period : Float) (p : Point) (s : Segment) → nat_abs (step_of period p s) ≤ 1
unfolding step_of
step_small period p s = at_small p.v s.a.u s.a.v (gained period s) s.b.v (add binary64 p.u (turns (sub binary64 (middle s.a.u (gained period s)) p.u) period))

pub step_grows : (period : Float) (p : Point) (s : Segment) (n : ℤ) → nat_abs (n +ℤ step_of period p s) ≤ nat_abs n + 1
step_grows period p s n = omega (arith, ints, step_small period p s)

module _ (period : Float) (p : Point) where
  -- the winding with one segment more
  abbrev pub wind_step : ℤ → Segment → ℤ
  wind_step n s = n +ℤ step_of period p s

  fold_small : (n : ℤ) (ss : List Segment) → nat_abs (foldl wind_step n ss) ≤ nat_abs n + length ss
  fold_small n [] = omega arith
  fold_small n (s ∷ ss) = omega (arith, fold_small (wind_step n s) ss, step_grows period p s n)

  -- from any start it is the start and the fold from 0
  fold_from : (n m : ℤ) (ss : List Segment) → foldl wind_step (n +ℤ m) ss ≡ n +ℤ foldl wind_step m ss
  fold_from n m [] = refl
  fold_from n m (s ∷ ss) = ap (λ (k : ℤ). foldl wind_step k ss) (+ℤ_assoc n m (step_of period p s)) ∙ fold_from n (wind_step m s) ss

  pub winding_from : (n : ℤ) (ring : List Point) → foldl wind_step n (segments ring) ≡ n +ℤ winding_of period p ring
  unfolding winding_of
  winding_from n ring = ap (λ (k : ℤ). foldl wind_step k (segments ring)) (sym (+ℤ_idr n)) ∙ fold_from n (pos 0) (segments ring)

pub winding_small : (period : Float) (p : Point) (ring : List Point) → nat_abs (winding_of period p ring) ≤ length ring
unfolding winding_of
winding_small period p ring = omega (arith, fold_small period p (pos 0) (segments ring), segments_count ring)

pub ruleset ring_sums = (winding_from, step_grows, segments_count)
