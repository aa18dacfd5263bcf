-- The last of a list's items, and whether a ring goes around, by its first and its last point.
use mathlib.Core.Path.{◌≡◌, refl, sym, ◌∙◌}
use mathlib.Core.Bool.{false}
use mathlib.Core.List.{List, [], ◌∷◌}
use Prim.Native.Nat.{suc, ◌-◌, ◌≤◌}
use native.Mathlib.Omega.{arith}
use lib.Ieee.{binary64, sub}
use lib.ListN.{length, get_or}
use Rattle.std.proofs.Common.{Some, None}
use Rattle.std.specs.Option.{unwrap_or}
use Rattle.std.proofs.lemmas.Option.{get_or_from_slice_get, none-some, unwrap_or-slice_get}
use Rattle.std.specs.List.{slice_get, last_or}
use Rattle.leaves.specs.Bounds.{exceeds_of}
use Rattle.leaves.specs.Constants.{pi}
use Rattle.sheet.specs.Content.{Point}
use Rattle.points.specs.Bounds.{last_of, goes_around}

pub last_at : {A : Type 0} (p : A) (ps : List A) (d : A) → last_of p ps ≡ get_or (p ∷ ps) (length ps) d
unfolding last_of
last_at p [] d = refl
last_at p (q ∷ ps) d = last_at q ps d

-- of a list, or the item before them where there is none
pub last_behind : {A : Type 0} (p : A) (ps : List A) → unwrap_or (slice_get ps (length ps - 1)) p ≡ last_of p ps
unfolding last_of
last_behind p [] = refl
last_behind p (q ∷ ps) =
    let n : suc (length ps) - 1 ≡ length ps = omega arith in
    rw n (unwrap_or-slice_get (q ∷ ps) (length ps) p ∙ sym (last_at q ps p))

pub around_none : (ring : List Point) → length ring ≤ 0 → goes_around ring ≡ false
unfolding goes_around
around_none [] h = refl
around_none (p ∷ ps) h = absurd (omega arith)

pub around_some : (ring : List Point) (d last : Point) → Some last ≡ slice_get ring (length ring - 1) → goes_around ring ≡ exceeds_of (sub binary64 (get_or ring 0 d).u last.u) pi
unfolding goes_around
around_some [] d last h = absurd (none-some last (sym h))
around_some (p ∷ ps) d last h =
    let n : suc (length ps) - 1 ≡ length ps = omega arith in
    rw (last_at p ps last, ← n, get_or_from_slice_get (p ∷ ps) (length (p ∷ ps) - 1) last last (sym h))

-- the last of an item and those after it
last_some : {A : Type 0} (p : A) (ps : List A) → last_or (Some p) ps ≡ Some (last_of p ps)
unfolding last_of
last_some p [] = refl
last_some p (q ∷ ps) = last_some q ps

pub last_is : {A : Type 0} (p : A) (ps : List A) → unwrap_or (last_or None ps) p ≡ last_of p ps
unfolding last_of
last_is p [] = refl
last_is p (q ∷ ps) = rw (last_some q ps)
