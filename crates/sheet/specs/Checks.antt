-- Document 01, "Calls and refusals", rows 1 to 7: the sheet's own checks, in the table's order. "one number means 'any
-- ring'".
use Rattle.std.specs.Prelude.{Bool, true, false, not, cond, ◌&&◌, ◌||◌, ℕ, ◌+◌, ◌-◌, eqb, ltb, length, take, drop, Float}
use mathlib.Core.List.{List, [], ◌∷◌, ◌++◌, foldl, flatten}
use Rattle.std.specs.Float.{binary64}
use Rattle.std.specs.Float.Ieee.{of_bits, lt, le}
use Rattle.leaves.specs.Constants.{plus_zero, deviation_limit}
use Rattle.sheet.specs.Content.{Point, Coedge, Sheet}
use Rattle.answers.specs.Lists.{any_of}
use Rattle.answers.specs.Outcome.{Check, check}
use Rattle.answers.specs.Limits.{beyond}
use Rattle.sheet.specs.Layout.{length_field, version, kind, sense, ring_count, head_size, head, sampled, coedge_points, coedge_head, coedge_size, coedge_parts, blocks}

-- ---- 1: "under 8 bytes, or length field ≠ bytes after it"
unfoldable pub length_wrong : List ℕ → Bool
length_wrong s = ltb (length s) 8 || not (eqb (length_field s) (length s - 4))

-- ---- 2: "version ≠ 1"
unfoldable pub version_wrong : List ℕ → Bool
version_wrong s = not (eqb (version s) 1)

-- ---- 3: "kind above 6 or sense above 2"
unfoldable pub codes_wrong : ℕ → ℕ → Bool
codes_wrong kind sense = ltb 6 kind || ltb 2 sense

-- ---- 4: "ring count 0 or above 16", of every kind

abbrev pub most_rings : ℕ
most_rings = 16

unfoldable pub ring_count_wrong : ℕ → ℕ → Bool
ring_count_wrong kind count = eqb count 0 || ltb most_rings count

-- ---- 5: "plane or ring blocks overrun the end or leave bytes over". A fault of the layout is the first in file order:
-- 5, or 27 for a count of points outside 2 to 17, which version 1 does not have; 0 where there is none

-- the first fault of parts, one behind the other
unfoldable pub first_fault : (List ℕ → ℕ) → List (List ℕ) → ℕ
first_fault fault [] = 0
first_fault fault (part ∷ parts) = cond (eqb (fault part) 0) (first_fault fault parts) (fault part)

-- of a coedge, cut short where it overruns the end
unfoldable pub coedge_fault : ℕ → List ℕ → ℕ
unfolding coedge_head coedge_points coedge_size
coedge_fault version part =
    cond (ltb (length part) (coedge_head version)) 5
    (cond (ltb (coedge_points version part) 2 || ltb sampled (coedge_points version part)) 27
    (cond (ltb (length part) (coedge_size version part)) 5 0))

-- of a ring block: its count may lie past the end
unfoldable pub block_fault : ℕ → List ℕ → ℕ
unfolding first_fault coedge_fault coedge_parts
block_fault version block = cond (eqb (length block) 0) 5 (first_fault (coedge_fault version) (coedge_parts version block))

-- bytes behind the head and the blocks
unfoldable pub bytes_over : List ℕ → Bool
unfolding head blocks
bytes_over s = ltb (length (head s ++ flatten (blocks s))) (length s)

unfoldable pub layout_fault : List ℕ → ℕ
unfolding head_size first_fault block_fault blocks bytes_over
layout_fault s =
    cond (ltb (length s) (head_size (kind s))) 5
    (cond (eqb (first_fault (block_fault (version s)) (blocks s)) 0) (cond (bytes_over s) 5 0)
    (first_fault (block_fault (version s)) (blocks s)))

unfoldable pub blocks_wrong : List ℕ → Bool
unfolding layout_fault
blocks_wrong s = not (eqb (layout_fault s) 0)

-- ---- 6: "a ring with 0 coedges, or over 128 in total"

abbrev pub most_coedges : ℕ
most_coedges = 128

unfoldable pub empty : List Coedge → Bool
empty [] = true
empty (c ∷ cs) = false

unfoldable pub coedge_total : List (List Coedge) → ℕ
coedge_total rings = foldl (λ (n : ℕ) (r : List Coedge). n + length r) 0 rings

unfoldable pub coedges_wrong : List (List Coedge) → Bool
unfolding empty coedge_total
coedges_wrong rings = any_of empty rings || ltb most_coedges (coedge_total rings)

-- ---- 7: "not finite; or magnitude above: 2^20 chart coordinate or origin, 2 axis component; or deviation below 0 or
-- not below 0.002"

-- 2^20
abbrev pub coordinate_limit : Float
coordinate_limit = of_bits binary64 0x4130000000000000

-- 2
abbrev pub axis_limit : Float
axis_limit = of_bits binary64 0x4000000000000000

unfoldable pub point_wrong : Point → Bool
unfolding beyond
point_wrong p = beyond coordinate_limit p.u || beyond coordinate_limit p.v

unfoldable pub coedge_wrong : Coedge → Bool
unfolding le lt point_wrong
coedge_wrong c = not (le plus_zero c.deviation && lt c.deviation deviation_limit) || any_of point_wrong c.points

unfoldable pub ring_wrong : List Coedge → Bool
unfolding coedge_wrong
ring_wrong ring = any_of coedge_wrong ring

-- origin, u axis, normal
unfoldable pub plane_wrong : List Float → Bool
unfolding beyond
plane_wrong xs = any_of (beyond coordinate_limit) (take 3 xs) || any_of (beyond axis_limit) (drop 3 xs)

unfoldable pub numbers_wrong : Sheet → Bool
unfolding plane_wrong ring_wrong
numbers_wrong s = plane_wrong s.plane || any_of ring_wrong s.rings

-- ---- the table

unfoldable pub layout_checks : List ℕ → List Check
unfolding length_wrong version_wrong codes_wrong ring_count_wrong blocks_wrong
layout_checks s =
    check 1 (length_wrong s)
    ∷ check 2 (version_wrong s)
    ∷ check 3 (codes_wrong (kind s) (sense s))
    ∷ check 4 (ring_count_wrong (kind s) (ring_count s))
    ∷ check 5 (blocks_wrong s)
    ∷ []

unfoldable pub content_checks : Sheet → List Check
unfolding coedges_wrong numbers_wrong
content_checks s = check 6 (coedges_wrong s.rings) ∷ check 7 (numbers_wrong s) ∷ []
