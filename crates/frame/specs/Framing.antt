-- Document 01, "Chart", rules 1 to 4 of a sheet's content at a phase, and the checks 8 and 11 to 13: what a call knows
-- of a sheet that "passes the joins".
use Rattle.std.specs.Prelude.{Bool, not, ◌&&◌, ◌||◌, ℕ, ◌+◌, eqb, ltb, length}
use mathlib.Core.List.{List, [], ◌∷◌, map, foldl}
use Rattle.answers.specs.Lists.{any_of}
use Rattle.answers.specs.Outcome.{Check, check}
use Rattle.sheet.specs.Content.{Point, Coedge, Sheet, ring_points}
use Rattle.points.specs.Unroll.{moved_ring}
use Rattle.points.specs.Joins.{opens, ring_open}
use Rattle.frame.specs.Frame.{frame_of, band_wide, narrow}
use Rattle.frame.specs.declared.framing.Frame.{Frame}

-- ---- 8: "phase not 0 or 1; 1 off a torus"
unfoldable pub phase_wrong : Sheet → ℕ → Bool
phase_wrong s phase = ltb 1 phase || (eqb phase 1 && not (eqb s.kind 4))

-- ---- how many points the rings have
unfoldable pub point_count : Sheet → ℕ
unfolding ring_points
point_count s = foldl (λ (n : ℕ) (r : List Coedge). n + length (ring_points r)) 0 s.rings

-- ---- 4, for check 13: whether any ring has a join above 1e-4, of rings with these points and, for each point, whether
-- it is its coedge's first
unfoldable pub any_open : {A : Type 0} → Frame → (A → List Bool) → (A → List Point) → List A → Bool
unfolding ring_open
any_open {A} f opens points rings = any_of (λ (r : A). ring_open f.periodic f.scale.u f.scale.v (opens r) (points r)) rings

-- ---- the table's rows 11 to 13, in a frame
unfoldable pub join_rows : Frame → Bool → List Check
unfolding band_wide narrow
join_rows f open_join = check 11 (band_wide f) ∷ check 12 (narrow f) ∷ check 13 open_join ∷ []

-- ---- rules 1 to 4 of a sheet

module _ (s : Sheet) (phase : ℕ) where
  -- 1 and 2: the points of each ring, wrapped and moved, in file order
  unfoldable pub moved_rings : List (List Point)
  unfolding moved_ring ring_points
  moved_rings = map (λ (r : List Coedge). moved_ring s.kind phase (ring_points r)) s.rings

  -- 3: box, band and periodic, and rule 5's P
  unfoldable pub frame : Frame
  unfolding frame_of moved_rings
  frame = frame_of s.kind moved_rings

  -- 4
  unfoldable pub joins_open : Bool
  unfolding any_open opens moved_ring ring_points frame
  joins_open = any_open frame opens (λ (r : List Coedge). moved_ring s.kind phase (ring_points r)) s.rings

  -- the table's rows behind the call's own 9 or 10, down to the joins
  unfoldable pub join_checks : List Check
  unfolding join_rows frame joins_open
  join_checks = join_rows frame joins_open
