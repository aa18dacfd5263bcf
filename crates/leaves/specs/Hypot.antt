-- Document 01, "hypot(a, b): root of (a×a + b×b), each operation rounded. Three terms: hypot(hypot(a, b), c)".
-- The key of a pair of differences is what its hypotenuse is the root of. Layers above compare keys and take the
-- hypotenuse of one; they know neither definition.
use Rattle.std.specs.Prelude.{Float}
use Rattle.std.specs.Float.{binary64}
use Rattle.std.specs.Float.Ieee.{add, mul}
use Rattle.leaves.specs.Root.{root_of}

unfoldable pub key_of : Float → Float → Float
unfolding add mul
key_of a b = add binary64 (mul binary64 a a) (mul binary64 b b)

unfoldable pub hypot_of_key : Float → Float
unfolding root_of
hypot_of_key k = root_of k

unfoldable pub hypot_of : Float → Float → Float
unfolding key_of hypot_of_key
hypot_of a b = hypot_of_key (key_of a b)

unfoldable pub hypot3_of : Float → Float → Float → Float
unfolding hypot_of
hypot3_of a b c = hypot_of (hypot_of a b) c
