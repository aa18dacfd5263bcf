-- Whether a join of a ring is too wide, by each point, the one before it and its mark.
use mathlib.Core.Path.{◌≡◌, refl, sym, ap, ap₂, ◌∙◌}
use mathlib.Core.Bool.{Bool, true, false, ◌&&◌, ◌||◌, or-false, or-true}
use mathlib.Core.List.{List, [], ◌∷◌}
use lib.Ieee.{Float}
use Rattle.std.specs.List.{zip}
use Rattle.std.proofs.lemmas.List.Folds.{list_any-append}
use Rattle.answers.specs.Lists.{any_of}
use Rattle.sheet.specs.Content.{Point}
use Rattle.points.specs.Bounds.{last_of}
use Rattle.points.specs.Joins.{join, seams, joins, wide, ring_open}

module _ (periodic : Bool) (scale_u scale_v : Float) where
  -- of the point before, a point and its mark
  abbrev pub wide_seam : (Point × Point) × Bool → Bool
  wide_seam x = x.1 && wide periodic scale_u scale_v (join x.0.0 x.0.1)

  seams_wide : (before : Point) (os : List Bool) (ps : List Point) → any_of (wide periodic scale_u scale_v) (seams before os ps) ≡ any_of wide_seam (zip (zip (before ∷ ps) ps) os)
  unfolding seams
  seams_wide before [] [] = refl
  seams_wide before [] (p ∷ ps) = refl
  seams_wide before (o ∷ os) [] = refl
  seams_wide before (true ∷ os) (p ∷ ps) = ap (λ (b : Bool). wide periodic scale_u scale_v (join before p) || b) (seams_wide p os ps)
  seams_wide before (false ∷ os) (p ∷ ps) = seams_wide p os ps

  -- a ring's seams, and its first point's join to its last
  open_is : {o : Bool} {os marks : List Bool} {p : Point} {ps ring : List Point} → marks ≡ o ∷ os → ring ≡ p ∷ ps
      → ring_open periodic scale_u scale_v marks ring ≡ (any_of wide_seam (zip (zip ring ps) os) || wide periodic scale_u scale_v (join p (last_of p ps)))
  unfolding ring_open joins
  open_is {os = os} {p = p} {ps = ps} m r =
      let closing = join p (last_of p ps) in
      rw (m, r) (list_any-append (wide periodic scale_u scale_v) (seams p os ps) (closing ∷ []) ∙ ap₂ {C = Bool} (λ (a b : Bool). a || b) (seams_wide p os ps) (or-false (wide periodic scale_u scale_v closing)))

  module _ {o closing : Bool} {os marks : List Bool} {p last : Point} {ps ring : List Point} (m : marks ≡ o ∷ os) (r : ring ≡ p ∷ ps) (e : closing ≡ wide periodic scale_u scale_v (join p last)) (l : last ≡ last_of p ps) where
    closing_left : ring_open periodic scale_u scale_v marks ring ≡ (any_of wide_seam (zip (zip ring ps) os) || closing)
    closing_left = open_is m r ∙ rw (← l, ← e)

    -- the first point is too far from the last
    pub open_closing : closing ≡ true → closing ≡ ring_open periodic scale_u scale_v marks ring
    open_closing h = h ∙ sym (closing_left ∙ rw h (or-true _))

    -- it is not
    pub open_seams : {any : Bool} → closing ≡ false → any ≡ any_of wide_seam (zip (zip ring ps) os) → any ≡ ring_open periodic scale_u scale_v marks ring
    open_seams h a = a ∙ sym (closing_left ∙ rw h (or-false _))

  pub unmarked_shut : (marks : List Bool) (ring : List Point) → marks ≡ [] → false ≡ ring_open periodic scale_u scale_v marks ring
  unfolding ring_open joins
  unmarked_shut marks ring e = rw e refl

  pub pointless_shut : (marks : List Bool) (ring : List Point) → ring ≡ [] → false ≡ ring_open periodic scale_u scale_v marks ring
  unfolding ring_open joins
  pointless_shut [] ring e = refl
  pointless_shut (o ∷ os) ring e = rw e refl
