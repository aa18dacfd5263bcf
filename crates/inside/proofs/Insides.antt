-- `inside_of` along a ring: it flips at each edge, from the point before on, and over a cell it flips the cell.
use mathlib.Core.Path.{◌≡◌, refl, sym, ap, ◌∙◌}
use mathlib.Core.Bool.{Bool, true, false, xor}
use mathlib.Core.List.{List, [], ◌∷◌}
use Prim.Native.Nat.{ℕ, suc, ◌+◌, ◌-◌, ◌<◌, ◌≤◌}
use native.Mathlib.Omega.{arith}
use lib.ListN.{length, get_or, drop}
use Rattle.std.proofs.Common.{Some, None}
use Rattle.std.proofs.lemmas.List.{at_drop_more, at_drop_all}
use Rattle.std.proofs.lemmas.Option.{get_or_from_slice_get, slice_get-get_or, none-some}
use Rattle.std.specs.List.{slice_get}
use Rattle.sheet.specs.Content.{Point}
use Rattle.inside.specs.Inside.{flips, inside_from, inside_of}
use Rattle.points.proofs.Ends.{last_at}
use Rattle.inside.proofs.Flips.{unflipped}

xor_assoc : (a b c : Bool) → xor (xor a b) c ≡ xor a (xor b c)
unfolding xor
xor_assoc true true true = refl
xor_assoc true true false = refl
xor_assoc true false true = refl
xor_assoc true false false = refl
xor_assoc false true true = refl
xor_assoc false true false = refl
xor_assoc false false true = refl
xor_assoc false false false = refl

from_no : (t : Bool) → xor false t ≡ t
unfolding xor
from_no true = refl
from_no false = refl

module _ (p : Point) where
  -- from a cell: it flips where the ring has the point inside
  flips_from : (t : Bool) (b : Point) (ps : List Point) → inside_from p t b ps ≡ xor t (inside_from p false b ps)
  unfolding inside_from
  flips_from t b [] = sym (unflipped t)
  flips_from t b (a ∷ ps) =
      flips_from (xor t (flips p a b)) a ps
      ∙ xor_assoc t (flips p a b) (inside_from p false a ps)
      ∙ ap (xor t) (sym (flips_from (xor false (flips p a b)) a ps ∙ ap (λ (s : Bool). xor s (inside_from p false a ps)) (from_no (flips p a b))))

  pub inside_none : (ring : List Point) → None ≡ slice_get ring (length ring - 1) → inside_of ring p ≡ false
  unfolding inside_of
  inside_none [] h = refl
  inside_none (a ∷ rest) h = absurd (none-some _ (h ∙ slice_get-get_or (a ∷ rest) (length (a ∷ rest) - 1) a (omega arith)))

  pub inside_start : (ring : List Point) (last : Point) → Some last ≡ slice_get ring (length ring - 1) → inside_from p false last ring ≡ inside_of ring p
  unfolding inside_of
  inside_start [] last h = absurd (none-some last (sym h))
  inside_start (a ∷ rest) last h =
      let n : suc (length rest) - 1 ≡ length rest = omega arith in
      ap (λ (b : Point). inside_from p false b (a ∷ rest)) (sym (last_at a rest last ∙ rw (← n) (get_or_from_slice_get (a ∷ rest) (length (a ∷ rest) - 1) last last (sym h))))

  pub flips_start : (ring : List Point) (last : Point) → Some last ≡ slice_get ring (length ring - 1) → (t : Bool) → inside_from p t last ring ≡ xor t (inside_of ring p)
  flips_start ring last h t = flips_from t last ring ∙ ap (xor t) (inside_start ring last h)

  -- one point more
  module _ (ring : List Point) (k : ℕ) (d : Point) (more : k < length ring) where
    pub inside_step : (t : Bool) (b : Point) → inside_from p t b (drop k ring) ≡ inside_from p (xor t (flips p (get_or ring k d) b)) (get_or ring k d) (drop (k + 1) ring)
    unfolding inside_from
    inside_step t b = at_drop_more (inside_from p t b) ring k d more

  pub inside_end : (ring : List Point) (k : ℕ) (t : Bool) (b : Point) → length ring ≤ k → inside_from p t b (drop k ring) ≡ t
  unfolding inside_from
  inside_end ring k t b h = at_drop_all (inside_from p t b) ring k h

-- a loop over the ring's points, each with the one before it
pub ruleset along_ring = (inside_none, inside_start, flips_start, inside_step, inside_end)
