-- Rules 1 and 2 keep every point a value of the format with no -0, and give as many points as they take.
use mathlib.Core.Path.{◌≡◌, refl, ap, ◌∙◌}
use mathlib.Core.Bool.{Bool, true, false, cond}
use mathlib.Core.List.{List, [], ◌∷◌, map}
use Prim.Native.Nat.{ℕ, suc}
use lib.Dec.{eqb}
use lib.Ieee.{Float, binary64, sub}
use lib.Ieee.Fits.{add-fits}
use lib.ListN.{length, length-map}
use Rattle.leaves.specs.Constants.{tau}
use Rattle.leaves.specs.Wrap.{wrap_of}
use Rattle.leaves.proofs.Choices.{Clear}
use Rattle.leaves.proofs.Folds.{All}
use Rattle.leaves.proofs.Signs.{add_clear}
use Rattle.leaves.proofs.Wraps.{wrap_clear, wrap_fits}
use Rattle.answers.proofs.Permutations.{all_map, all_weaken}
use Rattle.sheet.specs.Content.{Point}
pub use Rattle.sheet.proofs.Reading.{ClearPoint}
use Rattle.points.specs.Turns.{turns}
use Rattle.points.specs.Unroll.{wrapped, near, u_moves, v_moves, moved, follow, unrolled, moved_ring}
use Rattle.points.proofs.WholeTurns.{turns_fits}

either : (c : Bool) (x y : Float) → Clear binary64 x → Clear binary64 y → Clear binary64 (cond c x y)
either true x y p q = p
either false x y p q = q

-- ---- one point

pub wrapped_clear : (phase : ℕ) (p : Point) → ClearPoint p → ClearPoint (wrapped phase p)
unfolding wrapped
wrapped_clear phase p h = (h.0, either (eqb phase 1) (wrap_of p.v) p.v (record { held = wrap_fits p.v; unmarked = wrap_clear p.v }) h.1)

-- whatever the previous one is
pub near_clear : (previous x : Float) → Clear binary64 x → Clear binary64 (near previous x)
unfolding near
near_clear previous x h =
    let t = turns (sub binary64 previous x) tau in
    record { held = add-fits binary64 x t; unmarked = add_clear binary64 x t h.held (turns_fits (sub binary64 previous x) tau) h.unmarked }

moved_point_clear : (kind : ℕ) (previous p : Point) → ClearPoint p → ClearPoint (moved kind previous p)
unfolding moved
moved_point_clear kind previous p h = (
  either (u_moves kind) (near previous.u p.u) p.u (near_clear previous.u p.u h.0) h.0,
  either (v_moves kind) (near previous.v p.v) p.v (near_clear previous.v p.v h.1) h.1,
)

-- ---- a ring

follow_clear : (kind : ℕ) (previous : Point) (ps : List Point) → All ClearPoint ps → All ClearPoint (follow kind previous ps)
unfolding follow
follow_clear kind previous [] h = tt
follow_clear kind previous (p ∷ ps) h = (moved_point_clear kind previous p h.0, follow_clear kind (moved kind previous p) ps h.1)

pub unrolled_clear : (kind : ℕ) (ps : List Point) → All ClearPoint ps → All ClearPoint (unrolled kind ps)
unfolding unrolled
unrolled_clear kind [] h = tt
unrolled_clear kind (p ∷ ps) h = (h.0, follow_clear kind p ps h.1)

pub moved_clear : (kind phase : ℕ) (ps : List Point) → All ClearPoint ps → All ClearPoint (moved_ring kind phase ps)
unfolding moved_ring
moved_clear kind phase ps h =
    unrolled_clear kind (map (wrapped phase) ps)
    (all_map ClearPoint (wrapped phase) ps (all_weaken ClearPoint (λ (p : Point). ClearPoint (wrapped phase p)) (wrapped_clear phase) ps h))

-- ---- lengths

length_follow : (kind : ℕ) (previous : Point) (ps : List Point) → length (follow kind previous ps) ≡ length ps
unfolding follow
length_follow kind previous [] = refl
length_follow kind previous (p ∷ ps) = ap suc (length_follow kind (moved kind previous p) ps)

pub length_unrolled : (kind : ℕ) (ps : List Point) → length (unrolled kind ps) ≡ length ps
unfolding unrolled
length_unrolled kind [] = refl
length_unrolled kind (p ∷ ps) = ap suc (length_follow kind p ps)

pub length_moved : (kind phase : ℕ) (ps : List Point) → length (moved_ring kind phase ps) ≡ length ps
unfolding moved_ring
length_moved kind phase ps = length_unrolled kind (map (wrapped phase) ps) ∙ length-map ps (wrapped phase)
