-- The leader of the search, whose clearance is its key's hypotenuse, meets a covered grid point: the larger of its key
-- and the point's least key is the key of the leader after it; and the candidate is the better of the two, counted.
use mathlib.Core.Path.{◌≡◌, refl, sym, ap, ◌∙◌}
use mathlib.Core.Bool.{Bool, true, false, cond, true≢false}
use mathlib.Core.List.{List}
use Prim.Native.Nat.{ℕ}
use lib.Ieee.{Float, inf, lt}
use Rattle.leaves.specs.Bounds.{larger_of}
use Rattle.leaves.specs.Hypot.{hypot_of_key}
use Rattle.leaves.proofs.Choices.{larger_by_test, larger_keeps}
use Rattle.leaves.specs.Keys.{Key}
use Rattle.leaves.proofs.Hypotenuses.{inf_key, larger_hypot}
use Rattle.sheet.specs.Content.{Point}
use Rattle.points.specs.Grid.{grid_point}
use Rattle.points.specs.Segments.{Segment}
use Rattle.clearance.specs.Nearest.{least_key}
use Rattle.clearance.proofs.Stops.{least_key_lem}
use Rattle.search.specs.Chosen.{clear_to}
use Rattle.search.specs.Search.{better, counted}
use Rattle.search.specs.declared.candidate.Candidate.{Candidate}
use Rattle.search.proofs.Visits.{better_larger, better_clearance}

-- ---- the larger of two, where it is not above the first

larger_or_first : (a b : Float) (t : Bool) → lt a b ≡ t → lt a (cond t b a) ≡ false → cond t b a ≡ a
larger_or_first a b true e h = absurd (true≢false (sym e ∙ h))
larger_or_first a b false e h = refl

not_above_first : (a b : Float) → lt a (larger_of a b) ≡ false → larger_of a b ≡ a
not_above_first a b h =
    let e : larger_of a b ≡ cond (lt a b) b a = larger_by_test a b in
    e ∙ larger_or_first a b (lt a b) refl (sym (ap (lt a) e) ∙ h)

-- ---- the grid point (i, j) and the segments ss, met by a leader with this candidate and the key `bar`

module _ (i j : ℕ) (ss : List Segment) (best : Candidate) (bar : Float) (bar_key : Key bar) (clearance_is : best.clearance ≡ hypot_of_key bar) where
  abbrev least : Float
  least = least_key (grid_point i j) (inf false) ss

  least_is_key : Key least
  least_is_key = least_key_lem (grid_point i j) ss (inf false) inf_key

  module _ (p : Point) (at : p ≡ grid_point i j) (key : Float) (near : key ≡ larger_of bar (least_key p (inf false) ss)) where
    is : key ≡ larger_of bar least
    is = near ∙ ap (λ (q : Point). larger_of bar (least_key q (inf false) ss)) at

    pub same_or_above : lt bar key ≡ false → key ≡ bar
    same_or_above h = is ∙ not_above_first bar least (sym (ap (lt bar) is) ∙ h)

    pub met_key : Key key
    met_key = rw is (larger_keeps Key bar least bar_key least_is_key)

    -- the hypotenuse of the key is the larger of the two clearances
    met_hypot : hypot_of_key key ≡ larger_of best.clearance (clear_to ss i j)
    met_hypot = ap hypot_of_key is ∙ sym (larger_hypot bar least bar_key least_is_key) ∙ ap (λ (c : Float). larger_of c (hypot_of_key least)) (sym clearance_is)

    module _ (d : Float) (d-is : d ≡ hypot_of_key key) (met : Candidate) (met-is : met ≡ counted (better i j d best)) where
      pub met_candidate : met ≡ counted (better i j (clear_to ss i j) best)
      met_candidate = met-is ∙ ap (λ (c : Float). counted (better i j c best)) (d-is ∙ met_hypot) ∙ ap counted (better_larger i j (clear_to ss i j) best)

      pub met_clearance : met.clearance ≡ hypot_of_key key
      unfolding counted
      met_clearance = ap (λ (c : Candidate). c.clearance) met_candidate ∙ better_clearance i j (clear_to ss i j) best ∙ sym met_hypot
