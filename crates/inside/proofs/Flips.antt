-- What an edge flips in a row. In row j + 1, where just one end is above it, the edge cuts the row at one number, and
-- the points before that number flip; in any other row none does.
use mathlib.Core.Path.{◌≡◌, refl}
use mathlib.Core.Bool.{Bool, true, false, not, beq, xor, ◌&&◌}
use Prim.Native.Nat.{ℕ, ◌+◌, ◌-◌, ◌*◌, ◌/◌, ◌%◌, ◌<◌, ◌≤◌}
use native.Mathlib.Omega.{arith}
use borrow.Author.Tests.{lt-ltb, le-ltb, le-leb, lt-leb}
use lib.Dec.{leb, ltb}
use lib.Ieee.{lt}
use Rattle.sheet.specs.Content.{Point}
use Rattle.inside.specs.Inside.{flips}
use Rattle.points.specs.Grid.{part, grid_point}
use Rattle.inside.specs.Lines.{Below, Parted, cut, by_rows}

-- ---- flipped or not

pub flipped : (a : Bool) → not a ≡ xor a true
unfolding xor
flipped true = refl
flipped false = refl

pub unflipped : (a : Bool) → xor a false ≡ a
unfolding xor
unflipped true = refl
unflipped false = refl

-- where just one of two is so
pub differs : (a b : Bool) → not (beq a b) ≡ xor a b
unfolding xor
differs a b = refl

-- ---- the edge from b to a

module _ (a b : Point) where
  -- the cell in place k with what the edge does to it
  abbrev pub after : ℕ → Bool → Bool
  after k t = xor t (flips (by_rows k) a b)

  flips_row : (k : ℕ) → flips (by_rows k) a b ≡ xor (lt (part (k / 31 + 1)) a.v) (lt (part (k / 31 + 1)) b.v) && lt (part (k % 31 + 1)) (cut a b (part (k / 31 + 1)))
  unfolding flips by_rows grid_point cut
  flips_row k = refl

  module _ (low high : ℕ) (parted : Parted a.v b.v low high) where
    -- in a row between the counts
    module _ (j count : ℕ) (from : low ≤ j) (to : j < high) (below : Below (cut a b (part (j + 1))) count) where
      in_row : (m : ℕ) → m < 31 → (t : Bool) → after (31 * j + m) t ≡ xor t (ltb m count)
      in_row m h t =
          let e : (31 * j + m) / 31 ≡ j = omega arith in
          let f : (31 * j + m) % 31 ≡ m = omega arith in
          let top : j < 31 = omega (arith, parted.most) in
          rw (flips_row (31 * j + m), e, f, parted.is j top, le-leb low j from, lt-ltb j high to, below.is m h)

      pub flipped_front : (m : ℕ) → m < count → (t : Bool) → not t ≡ after (31 * j + m) t
      flipped_front m h t =
          let top = below.most in
          rw (in_row m (omega arith) t, lt-ltb m count h) (flipped t)

      pub kept_back : (k : ℕ) → 31 * j + count ≤ k → k < 31 * (j + 1) → (t : Bool) → after k t ≡ t
      kept_back k h l t =
          let m = k - 31 * j in
          let e : k ≡ 31 * j + m = omega arith in
          rw (e, in_row m (omega arith) t, le-ltb m count (omega arith)) (unflipped t)

    -- in a row before or after them
    row_still : (k : ℕ) → k < 961 → leb low (k / 31) && ltb (k / 31) high ≡ false → (t : Bool) → after k t ≡ t
    row_still k h e t =
        let top : k / 31 < 31 = omega arith in
        rw (flips_row k, parted.is (k / 31) top, e) (unflipped t)

    pub still_before : (k : ℕ) → k < 31 * low → (t : Bool) → after k t ≡ t
    still_before k l t =
        let n : k / 31 < low = omega arith in
        let most = parted.most in
        let order = parted.order in
        row_still k (omega arith) (rw (lt-leb low (k / 31) n)) t

    pub still_after : (k : ℕ) → k < 961 → 31 * high ≤ k → (t : Bool) → after k t ≡ t
    still_after k h l t = row_still k h (past (leb low (k / 31)) (le-ltb (k / 31) high (omega arith))) t
      where
        past : (s : Bool) → ltb (k / 31) high ≡ false → s && ltb (k / 31) high ≡ false
        past true e = e
        past false e = refl
