-- Document 01, "Chart", rule 6: "Segments join each ring point to the next, the last to the first".
-- The points of a ring are in the chart, or their images in space.
use Rattle.std.specs.Prelude.{List, [], ◌∷◌, None, Some, Float}
use Rattle.std.specs.Float.{binary64}
use Rattle.std.specs.Float.Ieee.{of_bits, add, sub, div}
use Rattle.sheet.specs.Content.{Point}
use Rattle.points.specs.Turns.{turns}
use Rattle.points.specs.declared.segment.Between as declared
use Rattle.points.specs.declared.segment.SegmentsLeft.{SegmentsLeft}

-- the code's struct (src/segment.rt)
abbrev pub Between : Type 0 → Type 0
Between A = declared.Between A

abbrev pub between : {A : Type 0} → A → A → Between A
between a b = record { a = a; b = b }

-- from a through the points after it, and back to the ring's first
unfoldable pub segments_from : {A : Type 0} → A → A → List A → List (Between A)
segments_from first a [] = between a first ∷ []
segments_from first a (b ∷ ps) = between a b ∷ segments_from first b ps

unfoldable pub segments : {A : Type 0} → List A → List (Between A)
unfolding segments_from
segments [] = []
segments (p ∷ ps) = segments_from p p ps

-- those that the code's iterator (src/segment.rt) has yet to give
unfoldable pub segments_left : {A : Type 0} → SegmentsLeft A → List (Between A)
unfolding segments_from
segments_left it = elim it.first [ None ↦ [] | Some first ↦ elim it.rest.now [ [] ↦ [] | a ∷ ps ↦ segments_from first a ps ] ]

-- ---- in the chart

abbrev pub Segment : Type 0
Segment = Between Point

abbrev pub segment : Point → Point → Segment
segment a b = between a b

-- ---- rule 7, periodic: "b.u gains round((a.u − b.u)/P) × P"; rule 8: "b moves as in 7"

unfoldable pub gained : Float → Segment → Float
unfolding add sub turns
gained period s = add binary64 s.b.u (turns (sub binary64 s.a.u s.b.u) period)

-- ---- "(a.u + b.u)/2", of both rules

abbrev pub two : Float
two = of_bits binary64 0x4000000000000000

abbrev pub middle : Float → Float → Float
middle a b = div binary64 (add binary64 a b) two
