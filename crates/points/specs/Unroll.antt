-- Document 01, "Chart", rules 1 and 2, on the points of one ring.
use Rattle.std.specs.Prelude.{Bool, cond, ◌&&◌, List, [], ◌∷◌, map, ℕ, eqb, leb, Float}
use Rattle.std.specs.Float.{binary64}
use Rattle.std.specs.Float.Ieee.{add, sub}
use Rattle.leaves.specs.Constants.{tau}
use Rattle.leaves.specs.Wrap.{wrap_of}
use Rattle.sheet.specs.Content.{Point, point}
use Rattle.points.specs.Turns.{turns}

-- ---- 1: "Phase 1 only: v becomes ((v + PI + PI) rem TAU) − PI, where rem is %, plus TAU if negative"
unfoldable pub wrapped : ℕ → Point → Point
wrapped phase p = point p.u (cond (eqb phase 1) (wrap_of p.v) p.v)

-- ---- 2: "In file order, each point after a ring's first moves by round((previous − it)/TAU) × TAU: u for kinds 1–4, v
-- also for 4"

-- x, moved to be near the previous one
unfoldable pub near : Float → Float → Float
unfolding add sub turns
near previous x = add binary64 x (turns (sub binary64 previous x) tau)

abbrev pub u_moves : ℕ → Bool
u_moves kind = leb 1 kind && leb kind 4

abbrev pub v_moves : ℕ → Bool
v_moves kind = eqb kind 4

unfoldable pub moved : ℕ → Point → Point → Point
unfolding near
moved kind previous p = point (cond (u_moves kind) (near previous.u p.u) p.u) (cond (v_moves kind) (near previous.v p.v) p.v)

-- the points after the previous one, which is moved already
unfoldable pub follow : ℕ → Point → List Point → List Point
unfolding moved
follow kind previous [] = []
follow kind previous (p ∷ ps) = moved kind previous p ∷ follow kind (moved kind previous p) ps

unfoldable pub unrolled : ℕ → List Point → List Point
unfolding follow
unrolled kind [] = []
unrolled kind (p ∷ ps) = p ∷ follow kind p ps

-- both rules
unfoldable pub moved_ring : ℕ → ℕ → List Point → List Point
unfolding unrolled wrapped
moved_ring kind phase ps = unrolled kind (map (wrapped phase) ps)
