-- Which points are their coedge's first: the marks of a coedge, one at a time, and how many a ring has.
use mathlib.Core.Path.{◌≡◌, refl, ap, ◌∙◌}
use mathlib.Core.Bool.{Bool, false}
use mathlib.Core.List.{List, [], ◌∷◌, flat_map}
use Prim.Native.Nat.{ℕ, zero, suc, ◌+◌, ◌<◌}
use native.Mathlib.Omega.{arith}
use lib.Dec.{eqb}
use borrow.Author.Tests.{ne_eqb}
use lib.ListN.{length, drop, replicate, length-append, length-replicate}
use Rattle.std.proofs.lemmas.List.{drop_more, get_or-replicate}
use Rattle.sheet.specs.Content.{Coedge, ring_points}
use Rattle.points.specs.Joins.{first_only, opens}

-- ---- one coedge

pub length_first_only : (n : ℕ) → length (first_only n) ≡ n
unfolding first_only
length_first_only zero = refl
length_first_only (suc n) = ap suc (length-replicate n false)

-- only the mark at 0 is set
pub mark_left : (n k : ℕ) → k < n → drop k (first_only n) ≡ eqb k 0 ∷ drop (k + 1) (first_only n)
unfolding first_only
mark_left zero k h = absurd (omega arith)
mark_left (suc n) zero h = refl
mark_left (suc n) (suc k) h =
    let m : suc k + 1 ≡ suc (k + 1) = omega arith in
    rw (m, ne_eqb (suc k) 0 (omega arith)) (drop_more (replicate n false) k false (rw (length-replicate n false) (omega arith)) ∙ ap (λ (b : Bool). b ∷ drop (k + 1) (replicate n false)) (get_or-replicate n k false false (omega arith)))

-- ---- a ring

-- a mark for each point
pub length_opens : (ring : List Coedge) → length (opens ring) ≡ length (ring_points ring)
unfolding opens ring_points flat_map
length_opens [] = refl
length_opens (c ∷ cs) = simp (length-append, length_first_only) (ap (λ (n : ℕ). length c.points + n) (length_opens cs))
