-- The turns of a segment serve between two columns where they are equal. The grid's columns go up, so what is left of
-- the middle goes down, and the turns with it: between two columns with equal turns they are equal to these.
-- Where they are no zeros they are the same; where they are zeros, of whatever sign, they add the same to a column,
-- which has no sign.
use mathlib.Core.Path.{◌≡◌, sym, ap, ◌∙◌}
use mathlib.Core.Bool.{Bool, true, false, not}
use Prim.Native.Nat.{ℕ, ◌≤◌}
use native.Mathlib.Omega.{arith}
use lib.Dec.{T}
use lib.Ieee.{Float, binary64, of_bits, add, sub, fits, eq, le}
use Rattle.leaves.specs.Constants.{plus_zero}
use Rattle.leaves.proofs.Monotone.{sub_anti}
use Rattle.leaves.proofs.Order.{eq→le, eq_sym, le_antisym, float_le_trans, same_nonzero, zero_of_eq}
use Rattle.leaves.proofs.Signs.{add_any_zero}
use Rattle.leaves.proofs.Values.{sign}
use Rattle.points.specs.Grid.{part}
use Rattle.points.specs.Turns.{keeps_order}
use Rattle.coverage.specs.Lines.{turn_at, Turning}
use Rattle.points.proofs.WholeTurns.{turns_fits, turns_mono}
use Rattle.points.proofs.ColumnOrder.{holds, numbers, part_plain, part_up}

-- ---- equal turns add the same to a column

zero_held : T (fits binary64 plus_zero)
unfolding of_bits fits
zero_held = tt

equal_zero : (x y : Float) → T (fits binary64 x) → T (fits binary64 y) → T (le y x) → T (le x y) → T (eq x plus_zero) → T (eq y plus_zero)
equal_zero x y h k p q e =
    le_antisym y plus_zero (float_le_trans binary64 y x plus_zero k h zero_held p (eq→le x plus_zero e)) (float_le_trans binary64 plus_zero x y zero_held h k (eq→le plus_zero x (eq_sym x plus_zero e)) q)

added_same : (c x y : Float) → sign c ≡ false → T (fits binary64 x) → T (fits binary64 y) → T (le y x) → T (le x y) → add binary64 c y ≡ add binary64 c x
added_same c x y n h k p q = by (eq x plus_zero) (λ t. t) (λ t. t)
  where
    by : (t : Bool) → (T t → T (eq x plus_zero)) → (T (not t) → T (not (eq x plus_zero))) → add binary64 c y ≡ add binary64 c x
    by true z o =
        ap (add binary64 c) (zero_of_eq binary64 y k (equal_zero x y h k p q (z tt))) ∙ add_any_zero binary64 c n (sign y) (sign x) ∙ sym (ap (add binary64 c) (zero_of_eq binary64 x h (z tt)))
    by false z o = ap (add binary64 c) (same_nonzero binary64 x y h k (o tt) q p)

-- ---- at one column

pub turning_at : (period mid : Float) (i : ℕ) → Turning period mid i i (turn_at period mid i)
turning_at period mid i m h k = let e : m ≡ i = omega arith in rw e

-- ---- between two columns

module _ (period mid : Float) (ordered : T (keeps_order period mid)) where
  turn_down : (i j : ℕ) → i ≤ j → T (le (turn_at period mid j) (turn_at period mid i))
  turn_down i j h = let n = numbers period mid ordered in turns_mono (sub binary64 mid (part j)) (sub binary64 mid (part i)) period n.above (sub_anti binary64 mid (part i) (part j) n.centre (part_up i j h))

  pub turning_between : (i t : ℕ) → eq (turn_at period mid i) (turn_at period mid t) ≡ true → Turning period mid i t (turn_at period mid i)
  turning_between i t e m h k =
      let fit : (j : ℕ) → T (fits binary64 (turn_at period mid j)) = λ j. turns_fits (sub binary64 mid (part j)) period in
      added_same (part m) (turn_at period mid i) (turn_at period mid m) (part_plain m) (fit i) (fit m) (turn_down i m h)
      (float_le_trans binary64 (turn_at period mid i) (turn_at period mid t) (turn_at period mid m) (fit i) (fit t) (fit m) (eq→le (turn_at period mid i) (turn_at period mid t) (holds (eq (turn_at period mid i) (turn_at period mid t)) e)) (turn_down m t k))
