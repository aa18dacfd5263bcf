-- Big-endian bytes, one byte at a time.
use mathlib.Core.Path.{◌≡◌, refl, ap, ◌∙◌}
use mathlib.Core.List.{List, [], ◌∷◌, foldl, foldl-append}
use Prim.Native.Nat.{ℕ, suc, ◌+◌, ◌*◌, ◌≤◌, ◌<◌}
use native.Mathlib.Omega.{arith}
use lib.ListN.{length, get_or, take}
use lib.Seq.{take-suc, get_or-take}
use borrow.Author.Tests.{lt-ltb, le-ltb}
use Rattle.std.specs.Int.{from_be_bytes, w64}
use Rattle.leaves.specs.Constants.{plus_zero}
use Rattle.sheet.specs.Layout.{big, number_of, number}

-- ---- big-endian

-- one byte more
big_step : (s : List ℕ) (n : ℕ) → n < length s → big (take (suc n) s) ≡ big (take n s) * 256 + get_or s n 0
unfolding big
big_step s n h = ap (foldl (λ (x b : ℕ). x * 256 + b) 0) (take-suc s n 0 h) ∙ foldl-append (λ (x b : ℕ). x * 256 + b) 0 (take n s) (get_or s n 0 ∷ [])

big_none : (s : List ℕ) → big (take 0 s) ≡ 0
unfolding big
big_none s = refl

-- four bytes
pub big_four : (s : List ℕ) → 4 ≤ length s → big (take 4 s) ≡ get_or s 0 0 * 0x1000000 + get_or s 1 0 * 0x10000 + get_or s 2 0 * 0x100 + get_or s 3 0
big_four s h = omega (arith, big_none s, big_step s 0 (omega arith), big_step s 1 (omega arith), big_step s 2 (omega arith), big_step s 3 (omega arith))

-- and eight, as std reads them
pub big_eight : (s : List ℕ) → 8 ≤ length s → from_be_bytes w64 (take 8 s) ≡ big (take 8 s)
big_eight s h =
    let at : (i : ℕ) → i < 8 → get_or (take 8 s) i 0 ≡ get_or s i 0 = λ i l. get_or-take 8 s i 0 l in
    omega (arith, big_four s (omega arith), big_step s 4 (omega arith), big_step s 5 (omega arith), big_step s 6 (omega arith), big_step s 7 (omega arith), at 0 (omega arith), at 1 (omega arith), at 2 (omega arith), at 3 (omega arith), at 4 (omega arith), at 5 (omega arith), at 6 (omega arith), at 7 (omega arith))

-- ---- the number that s begins with

pub number_short : (s : List ℕ) → length s < 8 → number s ≡ plus_zero
unfolding number
number_short s h = rw (lt-ltb (length s) 8 h)

pub number_whole : (s : List ℕ) → 8 ≤ length s → number s ≡ number_of (big (take 8 s))
unfolding number
number_whole s h = rw (le-ltb (length s) 8 h)
