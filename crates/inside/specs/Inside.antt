-- Document 01, "Chart", rule 7, where the chart is not periodic: `inside`, of one ring of the normalised chart.
use Rattle.std.specs.Prelude.{Bool, false, ◌&&◌, List, [], ◌∷◌}
use Rattle.std.specs.Bool.{xor}
use Rattle.std.specs.Float.{binary64}
use Rattle.std.specs.Float.Ieee.{add, sub, mul, div, lt}
use Rattle.sheet.specs.Content.{Point}
use Rattle.points.specs.Bounds.{last_of}

-- ---- "`inside`: starts no; for each ring point a with the one before it b (the last before the first), it flips when
-- just one of a.v > p.v, b.v > p.v holds and p.u < (b.u − a.u)×(p.v − a.v)/(b.v − a.v) + a.u"

unfoldable pub flips : Point → Point → Point → Bool
unfolding lt add sub mul div
flips p a b =
    xor (lt p.v a.v) (lt p.v b.v)
    && lt p.u (add binary64 (div binary64 (mul binary64 (sub binary64 b.u a.u) (sub binary64 p.v a.v)) (sub binary64 b.v a.v)) a.u)

unfoldable pub inside_from : Point → Bool → Point → List Point → Bool
unfolding flips
inside_from p so_far b [] = so_far
inside_from p so_far b (a ∷ rest) = inside_from p (xor so_far (flips p a b)) a rest

unfoldable pub inside_of : List Point → Point → Bool
unfolding inside_from last_of
inside_of [] p = false
inside_of (a ∷ rest) p = inside_from p false (last_of a rest) (a ∷ rest)
