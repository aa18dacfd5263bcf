-- How far from 0 rules 1 to 3 can lead. The whole turns of a number are at most 8 further out than the number. So where
-- no coordinate is larger than l when it is read, a point that is moved toward the one before it lies at most 2 l + 8
-- further out than that one, and all points of a ring lie within a bound that its length gives. The least and the
-- greatest of numbers are among them.
use mathlib.Core.Path.{sym, subst}
use mathlib.Core.Bool.{true, false}
use mathlib.Core.List.{List, [], ◌∷◌, map, foldl}
use Prim.Native.Nat.{ℕ, ◌+◌, ◌*◌, ◌/◌, ◌^◌, ◌≤◌}
use native.Mathlib.Nat.{le_trans, suc-mul}
use native.Mathlib.Omega.{arith}
use lib.Dec.{T, eqb}
use lib.Ieee.{Float, inf, binary64, prec, of_bits, sub, div}
use lib.Ieee.Positive.{positive, num, den}
use lib.ListN.{length, length-map}
use Rattle.leaves.specs.Bounds.{smaller_of, larger_of}
use Rattle.leaves.specs.Constants.{tau}
use Rattle.leaves.specs.Round.{round_of}
use Rattle.leaves.specs.Wrap.{wrap_of}
use Rattle.leaves.proofs.Choices.{larger_keeps, smaller_keeps}
use Rattle.leaves.proofs.Folds.{All, fold_keeps}
use Rattle.leaves.proofs.Magnitudes.{Most, add_most, div_most, most_either, most_more, mul_most, sub_most, smaller_first, larger_first}
use Rattle.leaves.proofs.Wholes.{f64_round_most}
use Rattle.leaves.proofs.Wraps.{wrap_most}
use Rattle.answers.proofs.Permutations.{all_map, all_weaken}
use Rattle.sheet.specs.Content.{Point}
use Rattle.sheet.proofs.Checked.{MostPoint}
use Rattle.points.specs.Bounds.{least, greatest, axis_of}
use Rattle.points.specs.Turns.{turns}
use Rattle.points.specs.Unroll.{wrapped, near, u_moves, v_moves, moved, follow, unrolled, moved_ring}

-- ---- whole turns

tau_above : T (positive tau)
unfolding of_bits
tau_above = tt

-- n / TAU, up to a whole number
abbrev turns_in : ℕ → ℕ
turns_in n = n * den tau / num tau + 1

turns_few : (n : ℕ) → turns_in n ≤ n + 8
unfolding of_bits
turns_few n = omega arith

turns_reach : (n : ℕ) → n * den tau ≤ turns_in n * num tau
unfolding of_bits
turns_reach n = omega arith

turns_stay : (n : ℕ) → turns_in n * num tau ≤ (n + 8) * den tau
unfolding of_bits
turns_stay n = omega arith

turns_most : (x : Float) (n : ℕ) → n + 8 ≤ 2 ^ prec binary64 → Most n x → Most (n + 8) (turns x tau)
unfolding turns
turns_most x n fit h =
    let few = le_trans (turns_few n) fit in
    mul_most binary64 (round_of (div binary64 x tau)) tau (turns_in n) (n + 8) tau_above fit (turns_stay n)
    (f64_round_most (div binary64 x tau) (turns_in n) few (div_most binary64 x tau n (turns_in n) tau_above few (turns_reach n) h))

near_most : (previous x : Float) (n l c : ℕ) → l + l + 8 ≤ c → n + c ≤ 2 ^ prec binary64 → Most n previous → Most l x → Most (n + c) (near previous x)
unfolding near
near_most previous x n l c grows fit h k =
    let d = sub binary64 previous x in
    most_more (l + (n + l + 8)) (n + c) (near previous x) (omega arith)
    (add_most binary64 x (turns d tau) l (n + l + 8) (omega arith) k (turns_most d (n + l) (omega arith) (sub_most binary64 previous x n l (omega arith) h k)))

-- ---- the points of a ring: none is larger than l when it is read, each lies at most c further out than the last

module _ (l c : ℕ) (grows : l + l + 8 ≤ c) where
  moved_most : (kind : ℕ) (previous p : Point) (n : ℕ) → n + c ≤ 2 ^ prec binary64 → MostPoint n previous → MostPoint l p → MostPoint (n + c) (moved kind previous p)
  unfolding moved
  moved_most kind previous p n fit h k = (
    most_either (n + c) (u_moves kind) (near previous.u p.u) p.u (near_most previous.u p.u n l c grows fit h.0 k.0) (most_more l (n + c) p.u (omega arith) k.0),
    most_either (n + c) (v_moves kind) (near previous.v p.v) p.v (near_most previous.v p.v n l c grows fit h.1 k.1) (most_more l (n + c) p.v (omega arith) k.1),
  )

  module _ (b : ℕ) (fit : b ≤ 2 ^ prec binary64) where
    point_more : (n : ℕ) (p : Point) → n ≤ b → MostPoint n p → MostPoint b p
    point_more n p h k = (most_more n b p.u h k.0, most_more n b p.v h k.1)

    follow_most : (kind : ℕ) (previous : Point) (ps : List Point) (n : ℕ) → n + length ps * c ≤ b → MostPoint n previous → All (MostPoint l) ps → All (MostPoint b) (follow kind previous ps)
    unfolding follow
    follow_most kind previous [] n room h k = tt
    follow_most kind previous (p ∷ ps) n room h k =
        let next = moved kind previous p in
        let q = moved_most kind previous p n (omega (arith, suc-mul (length ps) c)) h k.0 in
        (point_more (n + c) next (omega (arith, suc-mul (length ps) c)) q, follow_most kind next ps (n + c) (omega (arith, suc-mul (length ps) c)) q k.1)

    unrolled_most : (kind : ℕ) (ps : List Point) → l + length ps * c ≤ b → All (MostPoint l) ps → All (MostPoint b) (unrolled kind ps)
    unfolding unrolled
    unrolled_most kind [] room h = tt
    unrolled_most kind (p ∷ ps) room h = (point_more l p (omega arith) h.0, follow_most kind p ps l (omega (arith, suc-mul (length ps) c)) h.0 h.1)

    module _ (turned : 18 ≤ l) (room : l + 8 ≤ b) where
      wrapped_most : (phase : ℕ) (p : Point) → MostPoint l p → MostPoint l (wrapped phase p)
      unfolding wrapped
      wrapped_most phase p h = (
        h.0,
        most_either l (eqb phase 1) (wrap_of p.v) p.v (most_more 18 l (wrap_of p.v) turned (wrap_most p.v l (omega arith) h.1)) h.1,
      )

      pub moved_ring_most : (kind phase : ℕ) (ps : List Point) → l + length ps * c ≤ b → All (MostPoint l) ps → All (MostPoint b) (moved_ring kind phase ps)
      unfolding moved_ring
      moved_ring_most kind phase ps long h =
          unrolled_most kind (map (wrapped phase) ps) (subst (λ (k : ℕ). l + k * c ≤ b) (sym (length-map ps (wrapped phase))) long)
          (all_map (MostPoint l) (wrapped phase) ps (all_weaken (MostPoint l) (λ (p : Point). MostPoint l (wrapped phase p)) (wrapped_most phase) ps h))

-- ---- the least and the greatest, of one number or more

axis_most : (n axis : ℕ) (p : Point) → MostPoint n p → Most n (axis_of axis p)
unfolding axis_of
axis_most n axis p h = most_either n (eqb axis 0) p.u p.v h.0 h.1

module _ (n axis : ℕ) where
  extreme_most : (step : Float → Float → Float) (start : Float) → ((x : Float) → Most n x → Most n (step start x)) → ((s x : Float) → Most n s → Most n x → Most n (step s x))
      → (ps : List Point) → 1 ≤ length ps → All (MostPoint n) ps → Most n (foldl step start (map (axis_of axis) ps))
  extreme_most step start first keeps [] l h = absurd (omega arith)
  extreme_most step start first keeps (p ∷ ps) l h =
      fold_keeps step (Most n) (Most n) keeps (map (axis_of axis) ps)
      (all_map (Most n) (axis_of axis) ps (all_weaken (MostPoint n) (λ (q : Point). Most n (axis_of axis q)) (axis_most n axis) ps h.1))
      (step start (axis_of axis p)) (first (axis_of axis p) (axis_most n axis p h.0))

  pub least_most : (ps : List Point) → 1 ≤ length ps → All (MostPoint n) ps → Most n (least (map (axis_of axis) ps))
  unfolding least
  least_most ps l h = extreme_most smaller_of (inf false) (smaller_first n) (smaller_keeps (Most n)) ps l h

  pub greatest_most : (ps : List Point) → 1 ≤ length ps → All (MostPoint n) ps → Most n (greatest (map (axis_of axis) ps))
  unfolding greatest
  greatest_most ps l h = extreme_most larger_of (inf true) (larger_first n) (larger_keeps (Most n)) ps l h
