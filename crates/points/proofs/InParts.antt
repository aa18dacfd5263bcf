-- A list over whose front parts are written, one for each item of another list and each behind the one before it: the
-- next part has room, a call writes it, and with none left the parts stand over the list's front.
use mathlib.Core.Path.{◌≡◌, sym, ap, ◌∙◌}
use mathlib.Core.List.{List, [], ◌∷◌, ◌++◌, flat_map}
use Prim.Native.Nat.{ℕ, ◌+◌, ◌-◌, ◌≤◌}
use native.Mathlib.Omega.{arith}
use lib.ListN.{length, take, drop, length-append}
use Rattle.answers.specs.Lists.{over}
use Rattle.points.proofs.InPlace.{Written, written_length, part_written, over_written, all_filled}

module _ {A B : Type 0} (part : B → List A) {before now : List A} {k : ℕ} {bs : List B} {whole : List A} (w : Written before now k (flat_map part bs) whole) where
  module _ {cs : List B} {b : B} (next : bs ≡ b ∷ cs) (n : ℕ) (own : n ≡ length (part b)) (room : length whole ≤ length before) where
    part_first : flat_map part bs ≡ part b ++ flat_map part cs
    unfolding flat_map
    part_first = ap (flat_map part) next

    pub next_within : k + n ≤ length now
    next_within = omega (arith, w.same, written_length w, ap length part_first, length-append (part b) (flat_map part cs))

    pub next_written : {ys : List A} → ys ≡ part b → Written before (take k now ++ (ys ++ drop (k + n - k) (drop k now))) (k + n) (flat_map part cs) whole
    next_written {ys} e =
        let l : n ≡ length ys = own ∙ ap length (sym e) in
        let m : k + n - k ≡ length ys = omega arith in
        rw (m, l) (part_written w ys (flat_map part cs) (rw e part_first) (omega (arith, w.same, next_within)))

  module _ (none : bs ≡ []) where
    none_left : flat_map part bs ≡ []
    unfolding flat_map
    none_left = ap (flat_map part) none

    pub parts_over : length whole ≤ length before → now ≡ over whole before
    parts_over room = over_written w none_left (omega (arith, written_length w, ap length none_left)) (omega (arith, written_length w))

    pub parts_filled : length whole ≡ length before → now ≡ whole
    parts_filled room = all_filled w none_left (omega (arith, written_length w, ap length none_left))
