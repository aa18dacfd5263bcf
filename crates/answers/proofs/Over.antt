-- A list written over the front of another: where there is no room, where there is, and where there is just enough.
use mathlib.Core.Path.{◌≡◌, ◌∙◌}
use mathlib.Core.List.{List, ◌++◌, append-nil}
use Prim.Native.Nat.{ℕ, ◌<◌, ◌≤◌}
use native.Mathlib.Omega.{arith}
use borrow.Author.Tests.{lt-ltb, le-ltb}
use lib.ListN.{length, take, drop, replicate, length-replicate, drop_of_length-le}
use lib.Seq.{length-take-le}
use Rattle.answers.specs.Lists.{over}

module _ {A : Type 0} (xs ys : List A) where
  pub over_short : length ys < length xs → over xs ys ≡ ys
  unfolding over
  over_short h = rw (lt-ltb (length ys) (length xs) h)

  pub over_room : length xs ≤ length ys → over xs ys ≡ xs ++ drop (length xs) ys
  unfolding over
  over_room h = rw (le-ltb (length ys) (length xs) h)

  pub over_all : length ys ≡ length xs → over xs ys ≡ xs
  over_all h =
      let e : length ys ≤ length xs = omega arith in
      over_room (omega arith) ∙ rw (drop_of_length-le ys e) (append-nil xs)

-- the first n places of a list of size N that holds one value
pub length_front : {A : Type 0} (n N : ℕ) (x : A) → n ≤ N → length (take n (replicate N x)) ≡ n
length_front n N x h = length-take-le n (replicate N x) (rw (length-replicate N x) h)
