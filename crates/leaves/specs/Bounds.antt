-- Document 01, "Smaller-of keeps the first unless the second is less; larger-of likewise. Clamp: below the low end
-- gives the low end, above the high end the high end, else the number".
use Rattle.std.specs.Prelude.{Bool, cond, ◌||◌, Float}
use Rattle.std.specs.Float.Ieee.{neg, lt}

unfoldable pub smaller_of : Float → Float → Float
unfolding lt
smaller_of a b = cond (lt b a) b a

unfoldable pub larger_of : Float → Float → Float
unfolding lt
larger_of a b = cond (lt a b) b a

unfoldable pub clamp_of : Float → Float → Float → Float
unfolding lt
clamp_of x low high = cond (lt x low) low (cond (lt high x) high x)

-- of magnitude over the limit: "differ by over", "off by over"
unfoldable pub exceeds_of : Float → Float → Bool
unfolding lt neg
exceeds_of d limit = lt limit d || lt limit (neg d)
