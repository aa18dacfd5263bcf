-- The whole part of a root: `whole_root n` is the one r with r * r ≤ n < (r + 1) * (r + 1). It grows with n, and so
-- does the fraction that `rounded` hands on.
-- Assumes nothing.
use Rattle.std.proofs.Common.{◌≡◌, ℕ, zero, suc, ◌+◌, ◌*◌, ◌/◌, ◌^◌, ◌<◌, ◌≤◌, Bool, true, false, cond, not, T, eqb, leb, ◌⊎◌, refl, ap, ◌∙◌, subst, inl, inr, lt_of_lt_of_le, lt_of_le_of_lt, lt_irrefl, zero-lt-suc, div-lt_iff_lt-mul, le_antisymm, eq-or-lt_of_le, pow-suc, arith, eqb→eq, leb→le}
use lib.Dec.{nleb→lt, eqb_refl}
use lib.Arith.{lt_of_le-ne}
use lib.Ieee.{size}
use lib.Ieee.Digits.{size-lt}
use Rattle.leaves.specs.Root.{next_digit, root_digits, whole_root, sticky}
use Rattle.leaves.proofs.Squares.{square_suc, square_twice, square_odd, square_lt}

-- r is the whole part of the root of n
pub record IsRoot (n r : ℕ) : Type 0 where
  pub reached : r * r ≤ n
  pub past : n < (r + 1) * (r + 1)

next : (n r : ℕ) → IsRoot (n / 4) r → IsRoot n (next_digit n r)
next n r h = go (leb ((2 * r + 1) * (2 * r + 1)) n) (leb→le ((2 * r + 1) * (2 * r + 1)) n) (nleb→lt ((2 * r + 1) * (2 * r + 1)) n)
  where
    go : (b : Bool) → (T b → (2 * r + 1) * (2 * r + 1) ≤ n) → (T (not b) → n < (2 * r + 1) * (2 * r + 1)) → IsRoot n (cond b (2 * r + 1) (2 * r))
    go true p q = record {
      reached = p tt;
      past = omega (arith, square_suc (2 * r + 1), square_odd r, square_suc r, h.past);
    }
    go false p q = record { reached = omega (arith, square_twice r, h.reached); past = q tt }

four : (k n : ℕ) → n < 4 ^ suc k → n / 4 < 4 ^ k
four k n h = (div-lt_iff_lt-mul (zero-lt-suc 3)).1 (subst (λ (x : ℕ). n < x) (pow-suc 4 k) h)

none : (n : ℕ) → n < 1 → IsRoot n 0
none n h = record { reached = omega arith; past = omega arith }

digits_right : (k n : ℕ) → n < 4 ^ k → IsRoot n (root_digits k n)
unfolding root_digits
digits_right zero n h = none n h
digits_right (suc k) n h = next n (root_digits k (n / 4)) (digits_right k (n / 4) (four k n h))

two_four : (k : ℕ) → 2 ^ k ≤ 4 ^ k
two_four zero = omega arith
two_four (suc k) = simp pow-suc (omega (arith, two_four k))

pub is_root : (n : ℕ) → IsRoot n (whole_root n)
unfolding whole_root
is_root n = digits_right (size n) n (lt_of_lt_of_le (size-lt n) (two_four (size n)))

pub below_next : (r s : ℕ) → r < s + 1 → r ≤ s
below_next r s h = omega arith

at_most : (n r s : ℕ) → IsRoot n r → IsRoot n s → r ≤ s
at_most n r s h k = below_next r s (square_lt (lt_of_le_of_lt h.reached k.past))

pub only_root : (n r s : ℕ) → IsRoot n r → IsRoot n s → r ≡ s
only_root n r s h k = le_antisymm (at_most n r s h k) (at_most n s r k h)

pub root_is : (n r : ℕ) → IsRoot n r → whole_root n ≡ r
root_is n r h = only_root n (whole_root n) r (is_root n) h

-- ---- order

pub root_mono : (a b : ℕ) → a ≤ b → whole_root a ≤ whole_root b
root_mono a b h = below_next (whole_root a) (whole_root b) (square_lt (lt_of_le_of_lt (is_root a).reached (lt_of_le_of_lt h (is_root b).past)))

-- `sticky` is 1 exactly above the square
pub sticky_cases : (n : ℕ) → ((whole_root n * whole_root n ≡ n) × (sticky n ≡ 0)) ⊎ ((whole_root n * whole_root n < n) × (sticky n ≡ 1))
unfolding sticky
sticky_cases n = go (eqb (whole_root n * whole_root n) n) (eqb→eq (whole_root n * whole_root n) n) (λ (e : whole_root n * whole_root n ≡ n). subst (λ (x : ℕ). T (eqb (whole_root n * whole_root n) x)) e (eqb_refl (whole_root n * whole_root n)))
  where
    go : (b : Bool) → (T b → whole_root n * whole_root n ≡ n) → (whole_root n * whole_root n ≡ n → T b) → ((whole_root n * whole_root n ≡ n) × (◌≡◌ {A = ℕ} (cond b 0 1) 0)) ⊎ ((whole_root n * whole_root n < n) × (◌≡◌ {A = ℕ} (cond b 0 1) 1))
    go true p q = inl (p tt, refl)
    go false p q = inr (lt_of_le-ne (is_root n).reached q, refl)

pub sticky_le : (n : ℕ) → sticky n ≤ 1
sticky_le n = elim (sticky_cases n) [ inl c ↦ omega arith | inr c ↦ omega arith ]

-- the root in half units, and half of one more where it is not whole: what `rounded` hands to `round`
abbrev pub halves : ℕ → ℕ
halves n = 2 * whole_root n + sticky n

pub halves_mono : (a b : ℕ) → a ≤ b → halves a ≤ halves b
halves_mono a b h =
    elim (eq-or-lt_of_le (root_mono a b h)) [
      | inr l ↦ omega (arith, sticky_le a)
      | inl e ↦
          elim (sticky_cases a) [
            | inl c ↦ omega arith
            | inr c ↦ elim (sticky_cases b) [ inl d ↦ absurd (above_both (whole_root a) (whole_root b) a b e h c.0 d.0) | inr d ↦ omega arith ]
          ]
    ]
  where
    above_both : (r s a b : ℕ) → r ≡ s → a ≤ b → r * r < a → s * s ≡ b → ⊥
    above_both r s a b e h p q = lt_irrefl b (subst (λ (x : ℕ). x < b) (ap (λ (x : ℕ). x * x) e ∙ q) (lt_of_lt_of_le p h))
