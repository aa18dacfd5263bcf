-- Squares of whole numbers: their expansions, their order, and that an odd number has an odd square. Assumes nothing.
use Rattle.std.proofs.Common.{◌≡◌, ℕ, zero, suc, ◌+◌, ◌*◌, ◌/◌, ◌%◌, ◌^◌, ◌<◌, ◌≤◌, sym, refl, ap, ◌∙◌, mul_assoc, mul_comm, add-mul, mul-le-mul, pow-suc, lt_of_not-le, mul-one, mul-add, not-le_of_lt, mul_left_comm, arith}
use native.Mathlib.Nat.{pow-succ'}

pub square_add : (a b : ℕ) → (a + b) * (a + b) ≡ a * a + 2 * (a * b) + b * b
square_add a b = simp (mul-add, add-mul) (omega (arith, mul_comm a b))

pub square_suc : (a : ℕ) → (a + 1) * (a + 1) ≡ a * a + 2 * a + 1
square_suc a = simp (mul-add, add-mul) (omega arith)

pub square_twice : (a : ℕ) → (2 * a) * (2 * a) ≡ 4 * (a * a)
square_twice a = simp (mul_assoc, mul_left_comm) (omega arith)

pub square_odd : (a : ℕ) → (2 * a + 1) * (2 * a + 1) ≡ 4 * (a * a) + 4 * a + 1
square_odd a = simp (mul-add, add-mul, mul_assoc, mul_left_comm) (omega arith)

pub square_mono : {a b : ℕ} → a ≤ b → a * a ≤ b * b
square_mono h = mul-le-mul h h

-- the order of squares is the order of the numbers
pub square_lt : {a b : ℕ} → a * a < b * b → a < b
square_lt h = lt_of_not-le (λ g. not-le_of_lt h (square_mono g))

pub square_product : (a p : ℕ) → (a * p) * (a * p) ≡ a * a * (p * p)
square_product a p = simp (mul_assoc, mul_left_comm)

-- ---- a square that is an odd number times a power of two

-- s is t * 2 ^ l where s * s is m * 2 ^ j: j is twice l, and m is the square of t
pub record PowerSquare (s m j : ℕ) : Type 0 where
  pub t : ℕ
  pub l : ℕ
  pub whole : s ≡ t * 2 ^ l
  pub twice : j ≡ l + l
  pub square : t * t ≡ m

odd_of : (s : ℕ) → s % 2 ≡ 1 → s * s % 2 ≡ 1
odd_of s o =
    let x : s ≡ 2 * (s / 2) + 1 = omega arith in
    let y : s * s ≡ 4 * (s / 2 * (s / 2)) + 4 * (s / 2) + 1 = ap (λ (z : ℕ). z * z) x ∙ square_odd (s / 2) in
    omega arith

even_of : (s : ℕ) → s * s % 2 ≡ 0 → s ≡ 2 * (s / 2)
even_of s h = go (s % 2) refl
  where
    clash : (a : ℕ) → a ≡ 0 → a ≡ 1 → ⊥
    clash a p q = omega arith

    go : (b : ℕ) → s % 2 ≡ b → s ≡ 2 * (s / 2)
    go zero e = omega arith
    go (suc b) e = absurd (clash (s * s % 2) h (odd_of s (omega arith)))

halved : (s a : ℕ) → s * s ≡ 2 * a → 4 * (s / 2 * (s / 2)) ≡ 2 * a
halved s a e = sym (square_twice (s / 2)) ∙ ap (λ (z : ℕ). z * z) (sym (even_of s (omega arith))) ∙ e

even_odd : (m a : ℕ) → m % 2 ≡ 1 → m ≡ 2 * a → ⊥
even_odd m a o h = omega arith

half_of : (m a : ℕ) → 4 * a ≡ 2 * m → m ≡ 2 * a
half_of m a h = omega arith

pub power_square : (j m s : ℕ) → m % 2 ≡ 1 → s * s ≡ m * 2 ^ j → PowerSquare s m j
power_square zero m s o e = record { t = s; l = 0; whole = sym (mul-one s); twice = refl; square = e ∙ mul-one m }
power_square (suc zero) m s o e = absurd (even_odd m (s / 2 * (s / 2)) o (half_of m (s / 2 * (s / 2)) (halved s m (e ∙ mul_comm m 2))))
power_square (suc (suc j)) m s o e =
    let d : m * 2 ^ suc (suc j) ≡ 2 * (2 * (m * 2 ^ j)) = ap (λ (z : ℕ). m * z) (pow-suc 2 (suc j) ∙ ap (λ (z : ℕ). z * 2) (pow-suc 2 j)) ∙ quad m (2 ^ j) in
    let q : s / 2 * (s / 2) ≡ m * 2 ^ j = quarter (s / 2 * (s / 2)) (m * 2 ^ j) (halved s (2 * (m * 2 ^ j)) (e ∙ d)) in
    let r = power_square j m (s / 2) o q in
    record {
      t = r.t;
      l = suc r.l;
      whole = even_of s (even_square (s * s) (2 * (m * 2 ^ j)) (e ∙ d)) ∙ ap (λ (z : ℕ). 2 * z) r.whole ∙ mul_left_comm 2 r.t (2 ^ r.l) ∙ ap (λ (z : ℕ). r.t * z) (sym (pow-succ' 2 r.l));
      twice = both j r.l r.twice;
      square = r.square;
    }
  where
    quad : (m p : ℕ) → m * (p * 2 * 2) ≡ 2 * (2 * (m * p))
    quad m p = omega (arith, mul_assoc m (p * 2) 2, mul_assoc m p 2)

    quarter : (a b : ℕ) → 4 * a ≡ 2 * (2 * b) → a ≡ b
    quarter a b h = omega arith

    even_square : (a b : ℕ) → a ≡ 2 * b → a % 2 ≡ 0
    even_square a b h = omega arith

    both : (j l : ℕ) → j ≡ l + l → suc (suc j) ≡ suc l + suc l
    both j l h = omega arith
