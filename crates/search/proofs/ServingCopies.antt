-- A copy serves between two columns where it is the same. The grid's columns go up, a segment's turns go up with them,
-- and an end that is the same at two columns, and not at 0, is the same at every column between (`moved_squeeze` of the
-- rings' laws).
use mathlib.Core.Path.{◌≡◌, ap₂}
use mathlib.Core.Logic.{inl, inr}
use mathlib.Core.Bool.{true, not}
use Prim.Native.Nat.{ℕ, ◌≤◌}
use native.Mathlib.Omega.{arith}
use lib.Dec.{T}
use lib.Ieee.{Float, eq, ne}
use lib.Ieee.Fits.{and_l, and_r}
use lib.Ieee.Positive.{positive}
use lib.Ieee.Scale.{finite}
use Rattle.leaves.specs.Constants.{greatest_finite}
use Rattle.answers.specs.Limits.{beyond}
use Rattle.sheet.specs.Content.{point}
use Rattle.points.specs.Segments.{middle, Segment, segment}
use Rattle.points.specs.Grid.{part}
use Rattle.points.specs.Turns.{keeps_order}
use Rattle.points.proofs.ColumnOrder.{finite_of, holds, numbers as order_numbers, part_up}
use Rattle.points.proofs.Halving.{Reached}
use Rattle.points.proofs.WholeTurns.{moved, moved_squeeze}
use Rattle.search.specs.Copies.{same, same_ends, regular, Serving}
use Rattle.clearance.specs.Clearance.{shifted_to}

module _ (period : Float) (s : Segment) (reg : regular period s ≡ true) where
  abbrev mid : Float
  mid = middle s.a.u s.b.u

  tests : T (regular period s)
  tests = holds (regular period s) reg

  pub record Numbers : Type 0 where
    pub above : T (positive period)
    pub start : T (finite s.a.u)
    pub end : T (finite s.b.u)
    pub centre : T (finite mid)

  pub numbers : Numbers
  unfolding regular
  numbers =
      let o = order_numbers period mid (and_l (keeps_order period mid) _ tests) in
      let t = and_r (keeps_order period mid) _ tests in
      record {
        above = o.above;
        start = finite_of s.a.u (and_l (not (beyond greatest_finite s.a.u)) _ t);
        end = finite_of s.b.u (and_r (not (beyond greatest_finite s.a.u)) _ t);
        centre = o.centre;
      }

  abbrev at : ℕ → Segment
  at i = shifted_to period (part i) s

  -- an end
  module _ (c : Float) (end_finite : T (finite c)) (i m t : ℕ) (h : i ≤ m) (k : m ≤ t) where
    abbrev end_at : ℕ → Float
    end_at j = moved period mid c (part j)

    end_between : T (same (end_at i) (end_at t)) → end_at m ≡ end_at i
    unfolding same ne
    end_between e =
        let n = numbers in
        moved_squeeze period mid c n.above n.centre end_finite (part i) (part m) (part t) (part_up i m h) (part_up m t k) (and_l (eq (end_at i) (end_at t)) _ e) (and_r (eq (end_at i) (end_at t)) _ e)

  served_between : (i t : ℕ) → same_ends (at i) (at t) ≡ true → Serving period i t s (at i)
  unfolding same_ends shifted_to
  served_between i t e m h k =
      let n = numbers in
      let w = holds (same_ends (at i) (at t)) e in
      ap₂ (λ (p q : Float). segment (point p s.a.v) (point q s.b.v))
      (end_between s.a.u n.start i m t h k (and_l (same (at i).a.u (at t).a.u) _ w))
      (end_between s.b.u n.end i m t h k (and_r (same (at i).a.u (at t).a.u) _ w))

  -- up to the column that is found by halves, or to i itself
  pub served_to : (i t : ℕ) → Reached (λ m. same_ends (at i) (at m)) i t → (i ≤ t) × Serving period i t s (at i)
  served_to i t (up, inl e) = (up, λ m k l. let there : m ≡ i = omega arith in rw there)
  served_to i t (up, inr e) = (up, served_between i t e)
