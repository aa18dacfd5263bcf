-- Laws about decimal digits: the bound on the recursion plays no part; what `decimal` is below ten and from ten on; how
-- many digits there are; and that they are those that the library writes.
use Rattle.std.proofs.Common.{◌≡◌, Bool, true, false, cond, ℕ, zero, suc, ◌+◌, ◌*◌, ◌/◌, ◌%◌, ◌^◌, ◌<◌, ◌≤◌, ltb, List, [], ◌∷◌, ◌++◌, length, append_assoc, length-append, sym, refl, ap, arith, rules, pow-suc, zero-lt-suc}
use borrow.Author.Tests.{lt-ltb, le-ltb, ltb-true, ltb-false}
use Rattle.std.specs.Fmt.{decimal as printed}
use Rattle.std.proofs.lemmas.Fmt.{AppendsLastDigit, decimal_from_appends, decimal_digit, length-decimal-le}
use Rattle.text.specs.Digits.{digit, tens, decimal}

-- ---- the bound on the recursion plays no part

zero_tens : (k : ℕ) → tens k 0 ≡ digit 0 ∷ []
unfolding tens
zero_tens zero = refl
zero_tens (suc k) = refl

either : {A : Type 0} (t : Bool) (x y z : A) → (t ≡ false → y ≡ z) → cond t x y ≡ cond t x z
either true x y z f = refl
either false x y z f = f refl

enough : (k m n : ℕ) → n ≤ k → n ≤ m → tens k n ≡ tens m n
unfolding tens
enough zero m n h l = let z : n ≡ 0 = omega arith in rw (z, zero_tens m)
enough (suc k) zero n h l = let z : n ≡ 0 = omega arith in rw z (zero_tens (suc k))
enough (suc k) (suc m) n h l =
    either (ltb n 10) _ _ _ (λ t. ap (λ (d : List ℕ). d ++ (digit (n % 10) ∷ [])) (enough k m (n / 10) (omega (arith, ltb-false n 10 t)) (omega (arith, ltb-false n 10 t))))

-- ---- digit by digit

pub one_digit : (n : ℕ) → n < 10 → decimal n ≡ digit n ∷ []
unfolding decimal tens
one_digit zero h = refl
one_digit (suc n) h = rw (lt-ltb (suc n) 10 h)

pub last_digit : (n : ℕ) → 10 ≤ n → decimal n ≡ decimal (n / 10) ++ (digit (n % 10) ∷ [])
unfolding decimal tens
last_digit zero h = absurd (omega arith)
last_digit (suc n) h = rw (le-ltb (suc n) 10 h, enough n (suc n / 10) (suc n / 10) (omega arith) (omega arith))

-- ---- how many

by_ten : {A : Type 0} (n : ℕ) (t : Bool) → ltb n 10 ≡ t → (n < 10 → A) → (10 ≤ n → A) → A
by_ten n true e f g = f (ltb-true n 10 e)
by_ten n false e f g = g (ltb-false n 10 e)

pub decimal_length : (k n : ℕ) → n < 10 ^ suc k → length (decimal n) ≤ suc k
decimal_length zero n h = rw (one_digit n h) (omega arith)
decimal_length (suc k) n h =
    let p : n < 10 ^ suc k * 10 = rw pow-suc at h in
    by_ten n _ refl (λ l. rw (one_digit n l) (omega arith)) (λ l. rw (last_digit n l, length-append) (omega (arith, decimal_length k (n / 10) (omega arith))))

-- the digits of a u32
pub ten_digits : (n : ℕ) → n < 2 ^ 32 → length (decimal n) ≤ 10
ten_digits n h = decimal_length 9 n (omega arith)

-- ---- what the library writes

-- `tens` is a display that appends the last digit, as the library knows them
last_digits : AppendsLastDigit tens
unfolding tens digit
last_digits = search rules

few : (n : ℕ) → n < 10 ^ n
few zero = omega arith
few (suc n) = rw pow-suc (omega (arith, few n))

-- what the library writes of a u32
pub decimal_is : (n : ℕ) → n < 2 ^ 32 → printed n ≡ decimal n
unfolding decimal tens digit
decimal_is zero h = decimal_digit 0 (omega arith)
decimal_is (suc n) h =
    let small : suc n < 2 ^ 64 = omega arith in
    sym (decimal_from_appends tens last_digits (suc n) (suc n) small (length-decimal-le (suc n) (suc n) (zero-lt-suc n) (few (suc n)) small))

-- the status of a point
pub zero_is : decimal 0 ≡ 48 ∷ []
unfolding decimal tens digit
zero_is = refl

-- a line that begins with it, part by part
pub ruleset status = (zero_is, append_assoc)
