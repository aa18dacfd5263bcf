-- A list over whose front another is written, one item after the other: how far the writing is, kept by the store of an
-- item and by a part that a call wrote.
use mathlib.Core.Path.{◌≡◌, refl, sym, ap, ◌∙◌}
use mathlib.Core.List.{List, [], ◌∷◌, ◌++◌, append-nil, append_assoc}
use Prim.Native.Nat.{ℕ, suc, ◌+◌, ◌<◌, ◌≤◌}
use native.Mathlib.Omega.{arith}
use lib.ListN.{length, get_or, take, drop, set, length-append, length-drop, length-set, drop_of_length-le}
use lib.Seq.{drop-cons, drop-drop, drop_at, take_at, set_at}
use Rattle.answers.specs.Lists.{over}
use Rattle.answers.proofs.Over.{over_room}

-- of `whole` the first k items are written over `before`, and `rest` is left
pub record Written {A : Type 0} (before now : List A) (k : ℕ) (rest whole : List A) : Type 0 where
  pub done : List A
  pub count : length done ≡ k
  pub list : now ≡ done ++ drop k before
  pub all : done ++ rest ≡ whole
  pub same : length now ≡ length before

pub none_written : {A : Type 0} (xs whole : List A) → Written xs xs 0 whole whole
none_written xs whole = record { done = []; count = refl; list = refl; all = refl; same = refl }

module _ {A : Type 0} {before now : List A} {k : ℕ} {rest whole : List A} (w : Written before now k rest whole) where
  behind : drop k now ≡ drop k before
  behind = ap (drop k) w.list ∙ drop_at w.done (drop k before) k w.count

  -- as many items are left as the list of all has more
  pub written_length : k + length rest ≡ length whole
  written_length = omega (arith, w.count, simp length-append at (ap length w.all))

  -- what is not written yet is as it was
  pub unwritten : (d : A) → k < length before → drop k before ≡ get_or now k d ∷ drop (k + 1) before
  unwritten d h =
      let n : k + 1 ≡ suc k = omega arith in
      let e : drop (suc k) now ≡ drop (suc k) before = rw (← n, ← drop-drop 1 k now, ← drop-drop 1 k before, behind) in
      rw (n, ← behind, ← e) (drop-cons now k d (omega (arith, w.same)))

  -- the items ys come next
  module _ (ys left : List A) (e : rest ≡ ys ++ left) where
    further_all : (w.done ++ ys) ++ left ≡ whole
    further_all = append_assoc w.done ys left ∙ ap (λ (xs : List A). w.done ++ xs) (sym e) ∙ w.all

    further_count : length (w.done ++ ys) ≡ k + length ys
    further_count = simp (length-append, w.count)

    -- a call wrote them
    pub part_written : k + length ys ≤ length before
        → Written before (take k now ++ (ys ++ drop (length ys) (drop k now))) (k + length ys) left whole
    part_written room =
        let t : take k now ≡ w.done = ap (take k) w.list ∙ take_at w.done (drop k before) k w.count in
        record {
          done = w.done ++ ys;
          count = further_count;
          list = rw (t, behind, drop-drop, append_assoc);
          all = further_all;
          same = rw (t, behind, drop-drop) (simp (length-append, length-drop, w.count) (omega arith));
        }

  -- the next item is stored
  pub item_written : (x : A) (left : List A) → rest ≡ x ∷ left → k < length before → Written before (set now k x) (k + 1) left whole
  item_written x left e h =
      let n : k + 1 ≡ suc k = omega arith in
      record {
        done = w.done ++ x ∷ [];
        count = further_count (x ∷ []) left e;
        list = rw (w.list, n, drop-cons before k x h, set_at w.done (get_or before k x) (drop (suc k) before) x k w.count, append_assoc);
        all = further_all (x ∷ []) left e;
        same = simp length-set w.same;
      }

  -- none is left
  pub all_written : rest ≡ [] → now ≡ whole ++ drop k before
  all_written e = w.list ∙ ap (λ (xs : List A). xs ++ drop k before) (sym (append-nil w.done) ∙ ap (λ (xs : List A). w.done ++ xs) (sym e) ∙ w.all)

  -- and the items stand over the front of the list
  pub over_written : rest ≡ [] → k ≡ length whole → k ≤ length before → now ≡ over whole before
  over_written e h room = all_written e ∙ ap (λ (n : ℕ). whole ++ drop n before) h ∙ sym (over_room whole before (omega arith))

  -- and fill the list
  pub all_filled : rest ≡ [] → length before ≤ k → now ≡ whole
  all_filled e h = all_written e ∙ ap (λ (xs : List A). whole ++ xs) (drop_of_length-le before h) ∙ append-nil whole
