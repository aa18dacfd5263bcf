-- A list of which no number is missing has as many as the call asks.
use mathlib.Core.Path.{◌≡◌}
use mathlib.Core.Bool.{not, false}
use mathlib.Core.List.{List}
use Prim.Native.Nat.{ℕ}
use lib.Dec.{eqb}
use lib.Ieee.{Float}
use lib.ListN.{length}
use borrow.Author.Tests.{eqb-true, not-false}
use Rattle.answers.specs.Limits.{beyond, missing}
use Rattle.answers.specs.Lists.{any_of}
use Rattle.answers.proofs.AnyOf.{neither}

pub present : (n : ℕ) (limit : Float) (xs : List Float) → missing n limit xs ≡ false → length xs ≡ n
unfolding missing
present n limit xs e = eqb-true (length xs) n (not-false (eqb (length xs) n) (neither (not (eqb (length xs) n)) (any_of (beyond limit) xs) e).0)
