-- A list of which a part is written anew: as long as before, and changed in the part alone.
use mathlib.Core.Path.{◌≡◌, sym, ap, ◌∙◌}
use mathlib.Core.List.{List, ◌++◌}
use Prim.Native.Nat.{ℕ, ◌+◌, ◌-◌, ◌<◌, ◌≤◌}
use native.Mathlib.Omega.{arith}
use lib.ListN.{length, get_or, take, drop, length-append, length-drop, get_or-append}
use lib.Seq.{length-take-le, get_or-append-add, get_or-take, get_or-drop}

abbrev pub anew : {A : Type 0} → List A → List A → ℕ → ℕ → List A
anew l ys from x = take from l ++ (ys ++ drop x (drop from l))

module _ {A : Type 0} (d : A) (l ys : List A) (from x : ℕ) (new : length ys ≡ x) (room : from + x ≤ length l) where
  front : length (take from l) ≡ from
  front = length-take-le from l (omega arith)

  pub anew_length : length (anew l ys from x) ≡ length l
  anew_length = simp (length-append, length-drop) (omega (arith, front))

  pub anew_before : (k : ℕ) → k < from → get_or (anew l ys from x) k d ≡ get_or l k d
  anew_before k h = get_or-append (take from l) (ys ++ drop x (drop from l)) d k (omega (arith, front)) ∙ get_or-take from l k d h

  past_front : (k : ℕ) → get_or (anew l ys from x) (from + k) d ≡ get_or (ys ++ drop x (drop from l)) k d
  past_front k = ap (λ (n : ℕ). get_or (anew l ys from x) (n + k) d) (sym front) ∙ get_or-append-add (take from l) (ys ++ drop x (drop from l)) k d

  pub anew_in : (k : ℕ) → k < x → get_or (anew l ys from x) (from + k) d ≡ get_or ys k d
  anew_in k h = past_front k ∙ get_or-append ys (drop x (drop from l)) d k (omega arith)

  pub anew_after : (k : ℕ) → from + x ≤ k → get_or (anew l ys from x) k d ≡ get_or l k d
  anew_after k h =
      let n = k - from - x in
      let e : k ≡ from + (x + n) = omega arith in
      let f : from + (x + n) ≡ k = omega arith in
      ap (λ (i : ℕ). get_or (anew l ys from x) i d) e ∙ past_front (x + n) ∙ ap (λ (i : ℕ). get_or (ys ++ drop x (drop from l)) (i + n) d) (sym new) ∙ get_or-append-add ys (drop x (drop from l)) n d ∙ get_or-drop x (drop from l) n d ∙ get_or-drop from l (x + n) d ∙ ap (λ (i : ℕ). get_or l i d) f
