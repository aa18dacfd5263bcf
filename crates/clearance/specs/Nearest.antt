-- A second form of rule 8, which the code works by: the key of the distance to one segment, and the least over a list
-- of them. Keys order as distances do, so one root is taken for many segments. The law `chosen_is`
-- (crates/chart/proofs/Choosing.antt) joins it to the first form, which is Clearance.
use Rattle.std.specs.Prelude.{Bool, true, false, ◌≡◌, ℕ, Option, IfSome, slice_get, Float}
use mathlib.Core.List.{List, foldl}
use Rattle.std.specs.Float.Ieee.{le}
use Rattle.std.specs.Option.{unwrap_or, option_map}
use Rattle.leaves.specs.Bounds.{smaller_of}
use Rattle.leaves.specs.Hypot.{key_of}
use Rattle.sheet.specs.Content.{Point}
use Rattle.clearance.specs.Clearance.{residual}
use Rattle.points.specs.Segments.{Segment}

unfoldable pub key_to : Point → Segment → Float
unfolding residual
key_to p s = key_of (residual p s).u (residual p s).v

-- the least of `so far` and the keys of the segments
unfoldable pub least_key : Point → Float → List Segment → Float
unfolding key_to
least_key p so_far ss = foldl (λ (k : Float) (s : Segment). smaller_of k (key_to p s)) so_far ss

-- whether there is a segment in place k whose key is not above `bar`
unfoldable pub stops_at : Point → Float → ℕ → List Segment → Bool
unfolding key_to le
stops_at p bar k ss = unwrap_or (option_map (λ (s : Segment). le (key_to p s) bar) (slice_get ss k)) false

-- no place, or that of a segment that stops
abbrev pub Stop : Point → Float → Option ℕ → List Segment → Type 0
Stop p bar found ss = IfSome found (λ (k : ℕ). stops_at p bar k ss ≡ true)
