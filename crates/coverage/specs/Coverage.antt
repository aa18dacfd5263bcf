-- Document 01, "Chart", rule 7, on the rings of the normalised chart: the winding of a ring, the crossings of all
-- rings, and what they cover. `inside` has its own file (crates/inside/specs/Inside.antt).
use Rattle.std.specs.Prelude.{Bool, true, false, not, cond, ◌&&◌, ◌||◌, ℕ, ◌%◌, eqb, ltb, ℤ, pos, negsuc, nat_abs, ◌+ℤ◌, Float}
use Rattle.std.specs.Bool.{xor}
use mathlib.Core.List.{List, foldl}
use Rattle.std.specs.Float.{binary64}
use Rattle.std.specs.Float.Ieee.{add, sub, mul, div, lt}
use Rattle.sheet.specs.Content.{Point}
use Rattle.points.specs.Segments.{Segment, segments, gained, middle}
use Rattle.points.specs.Turns.{turns}
use Rattle.inside.specs.Inside.{inside_of}
use Rattle.frame.specs.declared.framing.Frame.{Frame}

-- ---- "Periodic, `periodic_winding`, on each segment from a to the next point b: b.u gains round((a.u − b.u)/P) × P; w
-- = p.u + round(((a.u + b.u)/2 − p.u)/P) × P; when just one of a.u > w, b.u > w holds and p.v > a.v + (b.v −
-- a.v)×(w − a.u)/(b.u − a.u), add 1 if b.u > a.u, else −1"

-- a crossing at a.u, a.v, b.u, b.v and w
unfoldable pub step : Float → Float → Float → Float → Float → Float → ℤ
unfolding lt add sub mul div
step pv au av bu bv w =
    cond (xor (lt w au) (lt w bu) && lt (add binary64 av (div binary64 (mul binary64 (sub binary64 bv av) (sub binary64 w au)) (sub binary64 bu au))) pv)
    (cond (lt au bu) (pos 1) (negsuc 0))
    (pos 0)

unfoldable pub step_of : Float → Point → Segment → ℤ
unfolding gained step turns add sub
step_of period p s =
    step p.v s.a.u s.a.v (gained period s) s.b.v
    (add binary64 p.u (turns (sub binary64 (middle s.a.u (gained period s)) p.u) period))

unfoldable pub winding_of : Float → Point → List Point → ℤ
unfolding step_of segments
winding_of period p ring = foldl (λ (n : ℤ) (s : Segment). n +ℤ step_of period p s) (pos 0) (segments ring)

-- ---- crossings of one ring: "the number" of rings with `inside`, or "the sum over all rings" of the winding
unfoldable pub crossing : Bool → Float → Point → List Point → ℤ
unfolding winding_of inside_of
crossing true period p ring = winding_of period p ring
crossing false period p ring = cond (inside_of ring p) (pos 1) (pos 0)

-- ---- over all rings of a frame

-- "crossings": the number of rings with `inside`, or the sum of the winding over all rings
unfoldable pub crossings : Frame → List (List Point) → Point → ℤ
unfolding crossing
crossings f rings p = foldl (λ (n : ℤ) (ring : List Point). n +ℤ crossing f.periodic f.period p ring) (pos 0) rings

-- "Covered: odd"
unfoldable pub oddℤ : ℤ → Bool
oddℤ n = eqb (nat_abs n % 2) 1

-- "on a band the sum must also be positive (sense 1) or negative (sense 2); sense 0 covers nothing"
unfoldable pub on_side : ℕ → ℤ → Bool
on_side sense (pos n) = eqb sense 1 && ltb 0 n
on_side sense (negsuc n) = eqb sense 2

unfoldable pub covered_by : Bool → ℕ → ℤ → Bool
unfolding oddℤ on_side
covered_by band sense n = oddℤ n && (not band || on_side sense n)

unfoldable pub covered : Frame → ℕ → List (List Point) → Point → Bool
unfolding covered_by crossings
covered f sense rings p = covered_by f.band sense (crossings f rings p)
