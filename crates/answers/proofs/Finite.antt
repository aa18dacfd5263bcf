-- A number that is not beyond a finite limit is finite, and no larger than the limit is.
use mathlib.Core.Path.{◌≡◌, sym, subst}
use mathlib.Core.Bool.{false, ◌&&◌}
use Prim.Native.Nat.{ℕ}
use lib.Dec.{T}
use lib.Ieee.{Float, neg, le}
use lib.Ieee.Fits.{and_l, and_r}
use lib.Ieee.Scale.{finite}
use borrow.Author.Tests.{not-false}
use Rattle.leaves.proofs.Magnitudes.{Most, within_most}
use Rattle.leaves.proofs.Order.{within_finite}
use Rattle.answers.specs.Limits.{beyond}

not_beyond : (limit x : Float) → beyond limit x ≡ false → T (le (neg limit) x) × T (le x limit)
unfolding beyond
not_beyond limit x e =
    let above = le (neg limit) x in
    let below = le x limit in
    let both : T (above && below) = subst T (sym (not-false (above && below) e)) tt in
    (and_l above below both, and_r above below both)

pub not_beyond_finite : (limit x : Float) → T (finite limit) → beyond limit x ≡ false → T (finite x)
not_beyond_finite limit x h e = within_finite limit x h (not_beyond limit x e).0 (not_beyond limit x e).1

pub not_beyond_most : (n : ℕ) (limit x : Float) → Most n limit → beyond limit x ≡ false → Most n x
not_beyond_most n limit x h e = within_most n limit x h (not_beyond limit x e).0 (not_beyond limit x e).1
