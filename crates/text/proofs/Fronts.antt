-- Laws about hexadecimal digits: there are none, or one more in front of those that stand.
use Rattle.std.proofs.Common.{◌≡◌, ℕ, zero, suc, ◌-◌, ◌/◌, ◌%◌, ◌<◌, ◌≤◌, List, [], ◌++◌, length, drop, refl, arith, append_assoc, add-one, length-set}
use Rattle.std.proofs.Math.ListN.{set}
use Rattle.std.proofs.lemmas.List.{drop-set}
use Rattle.text.specs.Digits.{digit, digits}

pub no_digits : (n : ℕ) → digits 0 n ≡ []
unfolding digits
no_digits n = refl

-- the digit d in front of those from i on
pub digit_more : (text : List ℕ) (i n d : ℕ) → 0 < i → i ≤ length text → d ≡ digit (n % 16) → digits (i - 1) (n / 16) ++ drop (i - 1) (set text (i - 1) d) ≡ digits i n ++ drop i text
unfolding digits
digit_more text zero n d h l e = absurd (omega arith)
digit_more text (suc i) n d h l e = let z : suc i - 1 ≡ i = omega arith in rw (z, drop-set text i d l, e, append_assoc, add-one)

-- one digit more, and none left
pub ruleset digit_steps = (length-set, no_digits, digit_more)
