-- Check 15 by the segments, told against its limit: below infinity the clearance is not above the limit where one of
-- the segments is near; above any other limit no clearance is.
use mathlib.Core.Path.{◌≡◌, refl, sym, ap, subst, ◌∙◌}
use mathlib.Core.Bool.{Bool, true, false, not, true≢false}
use mathlib.Core.List.{List}
use lib.Dec.{T}
use lib.Ieee.{Float, inf, binary64, mul, lt, fits}
use lib.Ieee.Bits.{of_bits-fits}
use lib.Ieee.Fits.{mul-fits}
use Rattle.leaves.specs.Constants.{physical_limit}
use Rattle.leaves.proofs.Choices.{larger_keeps}
use Rattle.leaves.proofs.ConstantBits.{physical_limit_bits}
use Rattle.space.specs.declared.vectors.Place.{Place}
use Rattle.sheet.specs.Content.{Coedge, Sheet}
use Rattle.physical.specs.Physical.{greatest_deviation, eight, physical_least, too_close}
use Rattle.physical.proofs.Nearness.{rings_near, ring_stays, clearance_within}

least_held : (rings : List (List Coedge)) → T (fits binary64 (physical_least rings))
unfolding physical_least
least_held rings =
    larger_keeps (λ (x : Float). T (fits binary64 x)) (mul binary64 (greatest_deviation rings) eight) physical_limit (mul-fits binary64 (greatest_deviation rings) eight)
    (subst (λ (x : Float). T (fits binary64 x)) (sym physical_limit_bits) (of_bits-fits binary64 _))

module _ (s : Sheet) (p : Place) (rings : List (List Place)) {limit : Float} (least : limit ≡ physical_least s.rings) where
  by_near : (below : Bool) → lt limit (inf false) ≡ below → too_close s p rings ≡ rings_near limit p (not below) rings
  unfolding too_close
  by_near below e =
      rw (sym least) (clearance_within limit (subst (λ (x : Float). T (fits binary64 x)) (sym least) (least_held s.rings)) p rings ∙ ap (λ (b : Bool). rings_near limit p (not b) rings) e)

  pub close_within : {near : Bool} → lt limit (inf false) ≡ true → near ≡ rings_near limit p false rings → near ≡ too_close s p rings
  close_within e n = n ∙ sym (by_near true e)

  pub close_always : lt limit (inf false) ≡ false → true ≡ too_close s p rings
  close_always e = sym (by_near false e ∙ ring_stays limit p rings)

-- ---- a limit that a clearance can be above, and one that none can

pub passable : (below : Bool) → false ≡ not below → below ≡ true
passable true e = refl
passable false e = absurd (true≢false (sym e))

pub impassable : (below : Bool) → true ≡ not below → below ≡ false
impassable true e = absurd (true≢false e)
impassable false e = refl
