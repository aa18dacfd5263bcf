-- Document 01, "Round: nearest whole number, halves away from zero, sign of zero kept; infinity itself, NaN a NaN".
-- proofs/Wholes.antt shows that the answer is the nearest whole number, and of two that are as near the one further
-- from zero.
use Rattle.std.specs.Prelude.{ℕ, ◌+◌, ◌*◌, ◌/◌, Float}
use Rattle.std.specs.Float.{nan, inf, fin, Format, binary64}
use Rattle.std.specs.Float.Ieee.{up, down, round}

-- num / den and a half, without its fraction
abbrev pub nearest_whole : ℕ → ℕ → ℕ
nearest_whole num den = (2 * num + den) / (2 * den)

-- the magnitude is rounded, and the sign kept: every such whole number is a value of the format, so `round` changes
-- nothing
unfoldable pub round_in : Format → Float → Float
unfolding round
round_in f nan = nan
round_in f (inf s) = inf s
round_in f (fin s m e) = round f s (nearest_whole (m * up e) (down e)) 1

unfoldable pub round_of : Float → Float
unfolding round_in
round_of = round_in binary64
