-- What `round` of a root's fraction gives. n is S * p * p with p = 2 ^ h, and R the whole root of S, which has one
-- digit more than the format keeps. Then the kept number is
-- (R + 1) / 2, in steps of p of the format's smallest value: R's last digit is what is rounded, and it is never a tie,
-- since R is odd there and S is no square of an odd number.
-- Assumes nothing.
use Rattle.std.proofs.Common.{◌≡◌, ℕ, zero, suc, ◌+◌, ◌-◌, ◌*◌, ◌/◌, ◌%◌, ◌^◌, ◌<◌, ◌≤◌, false, not, T, eqb, sym, refl, ap, ◌∙◌, subst, inl, inr, le_trans, le_of_eq, lt_of_lt_of_le, lt_of_le_of_lt, lt_irrefl, mul-le-mul_right, mul_assoc, div-lt_iff_lt-mul, add-mul, le_antisymm, mul-lt-mul_of_pos_right, mul-pos, one-mul, pow-suc, lt_of_not-le, le-div_iff_mul-le, mul_right_comm, not-le_of_lt, mul_left_comm, add-one-le, arith, lit<, eqb→eq, leb→le, pow_pos, pow_mono, pow-add}
use Prim.Native.Nat.{compare, Ordering}
use native.Mathlib.Nat.{eq_of_mul-eq-mul_right}
use lib.Dec.{is_le, compare_is_eq, nleb→lt, eqb_refl}
use lib.Arith.{digits_div, digits_mod, lt_of_le-ne}
use lib.Ieee.{Float, Format, prec, low, size, nearest, units, round}
use lib.Ieee.Digits.{size-lt, size-le}
use lib.Ieee.Exact.{HasValue, units_val}
use lib.Ieee.Fits.{core, round_is, two}
use lib.Ieee.Nearest.{closest, closest_same, div_same}
use lib.Ieee.Scale.{overflow}
use Rattle.leaves.specs.Root.{whole_root, sticky, rounded}
use Rattle.leaves.proofs.Squares.{square_lt, square_product}
use Rattle.leaves.proofs.Packing.{prec_hid}
use Rattle.leaves.proofs.WholeRoots.{below_next, is_root, halves, sticky_cases, sticky_le}

-- ---- what `compare` says

abbrev pub Says : Ordering → ℕ → ℕ → Type 0
Says Ordering.lt a b = a < b
Says Ordering.eq a b = a ≡ b
Says Ordering.gt a b = b < a

pub says : (a b : ℕ) → Says (compare a b) a b
says a b = go (compare a b) (leb→le a b) (nleb→lt a b) (eqb→eq a b) (λ (e : a ≡ b). subst (λ (x : ℕ). T (eqb a x)) e (eqb_refl a))
  where
    go : (o : Ordering) → (T (is_le o) → a ≤ b) → (T (not (is_le o)) → b < a) → (T (compare_is_eq o) → a ≡ b) → (a ≡ b → T (compare_is_eq o)) → Says o a b
    go Ordering.lt h k e n = lt_of_le-ne (h tt) n
    go Ordering.eq h k e n = e tt
    go Ordering.gt h k e n = k tt

clash : (a b : ℕ) → a < b → b < a → ⊥
clash a b h k = omega arith

-- the nearest whole number, where the fraction's side of the half is known
nearest_down : (q a b : ℕ) → a < b → nearest q (compare a b) ≡ q
nearest_down q a b h = go (compare a b) (says a b)
  where
    go : (o : Ordering) → Says o a b → nearest q o ≡ q
    go Ordering.lt s = refl
    go Ordering.eq s = absurd (lt_irrefl b (subst (λ (x : ℕ). x < b) s h))
    go Ordering.gt s = absurd (clash a b h s)

nearest_up : (q a b : ℕ) → b < a → nearest q (compare a b) ≡ suc q
nearest_up q a b h = go (compare a b) (says a b)
  where
    go : (o : Ordering) → Says o a b → nearest q o ≡ suc q
    go Ordering.lt s = absurd (clash a b s h)
    go Ordering.eq s = absurd (lt_irrefl b (subst (λ (x : ℕ). b < x) s h))
    go Ordering.gt s = refl

down_at : (q m rest n : ℕ) → rest * 2 < m → n ≡ q * m + rest → closest n m ≡ q
down_at q m rest n h e =
    let l : rest < m = omega arith in
    let d : n / m ≡ q = ap (λ (x : ℕ). x / m) e ∙ digits_div q l in
    let r : n % m ≡ rest = ap (λ (x : ℕ). x % m) e ∙ digits_mod q l in
    rw (d, r) (nearest_down q (rest * 2) m h)

up_at : (q m rest n : ℕ) → rest < m → m < rest * 2 → n ≡ q * m + rest → closest n m ≡ suc q
up_at q m rest n l h e =
    let d : n / m ≡ q = ap (λ (x : ℕ). x / m) e ∙ digits_div q l in
    let r : n % m ≡ rest = ap (λ (x : ℕ). x % m) e ∙ digits_mod q l in
    rw (d, r) (nearest_up q (rest * 2) m h)

-- ---- the kept number: r is between R and R + 1 steps of p, and s is 0 or 1

kept_number : (R r p s : ℕ) → R * p ≤ r → r < (R + 1) * p → s ≤ 1 → (R % 2 ≡ 1 → 2 * r + s ≡ 2 * (R * p) → ⊥) → closest (2 * r + s) (4 * p) ≡ (R + 1) / 2
kept_number R r p s lo hi small tie = go (R % 2) refl
  where
    four : (q : ℕ) → q * (4 * p) ≡ 4 * (q * p)
    four q = mul_left_comm q 4 p

    even : R ≡ 2 * (R / 2) → R * p ≡ 2 * (R / 2 * p)
    even e = ap (λ (x : ℕ). x * p) e ∙ mul_assoc 2 (R / 2) p

    odd : R ≡ 2 * (R / 2) + 1 → R * p ≡ 2 * (R / 2 * p) + p
    odd e = ap (λ (x : ℕ). x * p) e ∙ add-mul (2 * (R / 2)) 1 p ∙ (simp (mul_assoc, one-mul))

    go : (b : ℕ) → R % 2 ≡ b → closest (2 * r + s) (4 * p) ≡ (R + 1) / 2
    go zero e =
        let x : R ≡ 2 * (R / 2) = omega arith in
        let y = even x in
        let z = four (R / 2) in
        down_at (R / 2) (4 * p) (2 * (r - R * p) + s) (2 * r + s) (omega arith) (omega arith) ∙ omega arith
    go (suc b) e =
        let x : R ≡ 2 * (R / 2) + 1 = omega arith in
        let y = odd x in
        let z = four (R / 2) in
        let t : 2 * (R * p) < 2 * r + s = lt_of_le-ne (omega arith) (λ g. tie (omega arith) (sym g)) in
        up_at (R / 2) (4 * p) (2 * p + (2 * (r - R * p) + s)) (2 * r + s) (omega arith) (omega arith) (omega arith) ∙ omega arith

-- ---- the digits dropped

size_is : (n j : ℕ) → 2 ^ j ≤ n → n < 2 ^ suc j → size n ≡ suc j
size_is n j lo hi = le_antisymm (size-le n (suc j) hi) (lt_of_not-le (λ (g : size n ≤ j). not-le_of_lt (lt_of_lt_of_le (size-lt n) (pow_mono g)) lo))

-- ---- the root of S * p * p

module _ (S p : ℕ) (pos : 0 < p) where
  pub scaled_reached : whole_root S * p ≤ whole_root (S * (p * p))
  scaled_reached =
      let r = whole_root (S * (p * p)) in
      let R = whole_root S in
      below_next (R * p) r (square_lt (lt_of_le_of_lt (le_trans (le_of_eq (square_product R p)) (mul-le-mul_right (p * p) (is_root S).reached)) (is_root (S * (p * p))).past))

  pub scaled_past : whole_root (S * (p * p)) < (whole_root S + 1) * p
  scaled_past =
      square_lt (lt_of_le_of_lt (is_root (S * (p * p))).reached (lt_of_lt_of_le (mul-lt-mul_of_pos_right (is_root S).past (mul-pos pos pos)) (le_of_eq (sym (square_product (whole_root S + 1) p)))))

  -- twice the root and the sticky digit are twice R steps only where S is R * R
  exact_only : halves (S * (p * p)) ≡ 2 * (whole_root S * p) → whole_root S * whole_root S ≡ S
  exact_only e =
      let R = whole_root S in
      elim (sticky_cases (S * (p * p))) [
        | inl c ↦ eq_of_mul-eq-mul_right (p * p) (mul-pos pos pos) (R * R) S (sym (square_product R p) ∙ ap (λ (x : ℕ). x * x) (same (whole_root (S * (p * p))) (R * p) (sticky (S * (p * p))) e c.1) ∙ c.0)
        | inr c ↦ absurd (parity (whole_root (S * (p * p))) (R * p) (sticky (S * (p * p))) e c.1)
      ]
    where
      same : (r q s : ℕ) → 2 * r + s ≡ 2 * q → s ≡ 0 → q ≡ r
      same r q s e z = omega arith

      parity : (r q s : ℕ) → 2 * r + s ≡ 2 * q → s ≡ 1 → ⊥
      parity r q s e z = omega arith

  kept_of_root : (whole_root S % 2 ≡ 1 → whole_root S * whole_root S ≡ S → ⊥) → closest (halves (S * (p * p))) (4 * p) ≡ (whole_root S + 1) / 2
  kept_of_root tie = kept_number (whole_root S) (whole_root (S * (p * p))) p (sticky (S * (p * p))) scaled_reached scaled_past (sticky_le (S * (p * p))) (λ o e. tie o (exact_only e))

pub rounded_is : (f : Format) (n : ℕ) → rounded f n ≡ round f false (halves n) (2 ^ (low f + 2))
unfolding rounded
rounded_is f n = refl

-- in units of the format's smallest value, a fraction of `rounded` is a quarter of its numerator
pub quarter : (f : Format) (P : ℕ) → P * 2 ^ low f / 2 ^ (low f + 2) ≡ P / 4
quarter f P = div_same (P * 2 ^ low f) (2 ^ (low f + 2)) P 4 (pow_pos (low f + 2)) (lit< tt) (mul_assoc P (2 ^ low f) 4 ∙ ap (λ (x : ℕ). P * x) (sym (pow-add 2 (low f) 2)))

-- `rounded` in steps of p = 2 ^ h, where the root of S has one digit more than the format keeps
module _ (f : Format) (S h : ℕ) (lo : 2 ^ prec f ≤ whole_root S) (hi : whole_root S < 2 ^ suc (prec f)) where
  quarter_reached : 2 ^ (prec f - 1 + h) ≤ halves (S * (2 ^ h * 2 ^ h)) / 4
  quarter_reached =
      let p = 2 ^ h in
      let b = 2 ^ (prec f - 1) in
      let x : b * 2 * p ≤ whole_root S * p = mul-le-mul_right p (subst (λ (z : ℕ). z ≤ whole_root S) (prec_hid f) lo) in
      let y = scaled_reached S p (pow_pos h) in
      (le-div_iff_mul-le (lit< tt)).1 (subst (λ (z : ℕ). z * 4 ≤ halves (S * (p * p))) (sym (pow-add 2 (prec f - 1) h)) (omega (arith, mul_right_comm b 2 p)))

  quarter_small : halves (S * (2 ^ h * 2 ^ h)) / 4 < 2 ^ suc (prec f - 1 + h)
  quarter_small =
      let p = 2 ^ h in
      let b = 2 ^ (prec f - 1) in
      let x : (whole_root S + 1) * p ≤ b * 2 * 2 * p = mul-le-mul_right p (add-one-le (subst (λ (z : ℕ). whole_root S < z) (pow-suc 2 (prec f) ∙ ap (λ (z : ℕ). z * 2) (prec_hid f)) hi)) in
      let y = scaled_past S p (pow_pos h) in
      let z = sticky_le (S * (p * p)) in
      (div-lt_iff_lt-mul (lit< tt)).1 (subst (λ (w : ℕ). halves (S * (p * p)) < w * 4) (sym (pow-suc 2 (prec f - 1 + h) ∙ ap (λ (w : ℕ). w * 2) (pow-add 2 (prec f - 1) h))) (omega (arith, mul_right_comm (b * 2) 2 p, mul_right_comm b 2 p)))

  dropped : size (halves (S * (2 ^ h * 2 ^ h)) * 2 ^ low f / 2 ^ (low f + 2)) - prec f ≡ h
  dropped = ap (λ (x : ℕ). size x - prec f) (quarter f (halves (S * (2 ^ h * 2 ^ h)))) ∙ ap (λ (x : ℕ). x - prec f) (size_is (halves (S * (2 ^ h * 2 ^ h)) / 4) (prec f - 1 + h) quarter_reached quarter_small) ∙ less (prec f) (two f)
    where
      less : (b : ℕ) → 2 ≤ b → suc (b - 1 + h) - b ≡ h
      less b t = omega arith

  pub root_rounds : (whole_root S % 2 ≡ 1 → whole_root S * whole_root S ≡ S → ⊥) → (whole_root S + 1) / 2 * 2 ^ h < overflow f
      → HasValue (rounded f (S * (2 ^ h * 2 ^ h))) false ((whole_root S + 1) / 2 * 2 ^ h) (2 ^ low f)
  root_rounds tie fine =
      let p = 2 ^ h in
      let P = halves (S * (p * p)) in
      let d = 2 ^ (low f + 2) in
      let same : closest (P * 2 ^ low f) (d * p) ≡ closest P (4 * p) =
      closest_same (P * 2 ^ low f) (d * p) P (4 * p) (mul-pos (pow_pos (low f + 2)) (pow_pos h)) (mul-pos (lit< tt) (pow_pos h))
      (mul_assoc P (2 ^ low f) (4 * p) ∙ ap (λ (x : ℕ). P * x) (sym (mul_assoc (2 ^ low f) 4 p) ∙ ap (λ (x : ℕ). x * p) (sym (pow-add 2 (low f) 2)))) in
      let is : rounded f (S * (p * p)) ≡ units f false ((whole_root S + 1) / 2) h =
      rounded_is f (S * (p * p))
      ∙ round_is f false P d
      ∙ ap (λ (k : ℕ). core f false (P * 2 ^ low f) d k) dropped
      ∙ ap (λ (q : ℕ). units f false q h) (same ∙ kept_of_root S p (pow_pos h) tie) in
      subst (λ (x : Float). HasValue x false ((whole_root S + 1) / 2 * p) (2 ^ low f)) (sym is) (units_val f false ((whole_root S + 1) / 2) h fine)
