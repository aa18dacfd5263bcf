-- Document 01, "Chart", rule 4 and check 13, on one ring.
use Rattle.std.specs.Prelude.{Bool, true, false, cond, ℕ, zero, suc, length, replicate, Float}
use mathlib.Core.List.{List, [], ◌∷◌, ◌++◌, flat_map}
use Rattle.std.specs.Float.{binary64}
use Rattle.std.specs.Float.Ieee.{sub, div, lt}
use Rattle.leaves.specs.Constants.{tau, join_limit}
use Rattle.leaves.specs.Hypot.{hypot_of}
use Rattle.sheet.specs.Content.{Point, Coedge}
use Rattle.answers.specs.Lists.{any_of}
use Rattle.points.specs.Bounds.{last_of}
use Rattle.points.specs.Turns.{turns}

-- ---- "Joins: each coedge's first point to the point before it; each ring's first to its last"

pub record Join : Type 0 where
  pub from : Point
  pub to : Point

abbrev pub join : Point → Point → Join
join a b = record { from = a; to = b }

-- of so many points, whether each is the first
unfoldable pub first_only : ℕ → List Bool
first_only zero = []
first_only (suc n) = true ∷ replicate n false

-- for each point of a ring, whether it is its coedge's first
unfoldable pub opens : List Coedge → List Bool
unfolding flat_map first_only
opens ring = flat_map (λ (c : Coedge). first_only (length c.points)) ring

-- the joins of the points after the one before them
unfoldable pub seams : Point → List Bool → List Point → List Join
seams before [] ps = []
seams before (o ∷ os) [] = []
seams before (true ∷ os) (p ∷ ps) = join before p ∷ seams p os ps
seams before (false ∷ os) (p ∷ ps) = seams p os ps

-- a ring's first point has none with a point before it
unfoldable pub joins : List Bool → List Point → List Join
unfolding seams last_of
joins [] ps = []
joins (o ∷ os) [] = []
joins (o ∷ os) (p ∷ ps) = seams p os ps ++ join p (last_of p ps) ∷ []

-- ---- "Join: difference in u (periodic: less round(difference/TAU) × TAU) over u scale, in v over v scale; hypot of
-- the two"

unfoldable pub gap_u : Bool → Float → Float
unfolding sub turns
gap_u periodic d = cond periodic (sub binary64 d (turns d tau)) d

unfoldable pub gap : Bool → Float → Float → Join → Float
unfolding gap_u div sub
gap periodic scale_u scale_v j = hypot_of (div binary64 (gap_u periodic (sub binary64 j.from.u j.to.u)) scale_u) (div binary64 (sub binary64 j.from.v j.to.v) scale_v)

-- ---- 13: "a join above 1e-4"
unfoldable pub wide : Bool → Float → Float → Join → Bool
unfolding lt gap
wide periodic scale_u scale_v j = lt join_limit (gap periodic scale_u scale_v j)

unfoldable pub ring_open : Bool → Float → Float → List Bool → List Point → Bool
unfolding wide joins
ring_open periodic scale_u scale_v os ps = any_of (wide periodic scale_u scale_v) (joins os ps)
