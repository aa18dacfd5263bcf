-- Laws about numbers in bytes: one byte more, and how large they are.
use Rattle.std.proofs.Common.{◌≡◌, ℕ, ◌+◌, ◌*◌, ◌^◌, ◌<◌, ◌≤◌, List, get_or, pow-suc, add-one, arith, lit<}
use native.Mathlib.Nat.{pow-le-pow_right}
use Rattle.cases.specs.BigEndian.{big}

pub big_more : (s : List ℕ) (at i n b : ℕ) → n ≡ big s at i → b ≡ get_or s (at + i) 0 → n * 256 + b ≡ big s at (i + 1)
unfolding big
big_more s at i n b p q = rw (add-one, p, q)

pub more_below : (i n b : ℕ) → n < 256 ^ i → b < 256 → n * 256 + b < 256 ^ (i + 1)
more_below i n b h l = rw (add-one, pow-suc) (omega arith)

-- behind fewer than eight bytes a u64 has room for one more
pub seven_leave_room : (i : ℕ) → i < 8 → 256 ^ i ≤ 2 ^ 56
seven_leave_room i l = let le : i ≤ 7 = omega arith in pow-le-pow_right (lit< tt) le

pub ruleset one_byte_more = (big_more, more_below, seven_leave_room)
