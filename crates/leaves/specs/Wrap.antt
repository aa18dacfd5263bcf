-- Document 01, rule 1: "v becomes ((v + PI + PI) rem TAU) − PI, where rem is %, plus TAU if negative".
use Rattle.std.specs.Prelude.{cond, Float}
use Rattle.std.specs.Float.{binary64}
use Rattle.std.specs.Float.Ieee.{add, sub, rem, lt}
use Rattle.leaves.specs.Constants.{plus_zero, pi, tau}

-- a remainder by TAU, plus TAU if negative (−0 is not)
unfoldable pub lifted : Float → Float
unfolding add lt
lifted r = cond (lt r plus_zero) (add binary64 r tau) r

-- Rust's `rem_euclid` by TAU
unfoldable pub rem_tau : Float → Float
unfolding lifted rem
rem_tau x = lifted (rem binary64 x tau)

unfoldable pub wrap_of : Float → Float
unfolding rem_tau add sub
wrap_of v = sub binary64 (rem_tau (add binary64 (add binary64 v pi) pi)) pi
