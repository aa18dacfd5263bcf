-- The packed digits are the root: of a value significand * 2 ^ (2 * h) / 2 ^ g, where the root R of significand * 2 ^ j
-- has one digit more than the format keeps, the bits h * hid + (R + 1) / 2
-- are the root's. g + j is twice the exponent of the units that `root_in` counts in. Assumes nothing.
use Rattle.std.proofs.Common.{◌≡◌, ℕ, zero, suc, ◌+◌, ◌-◌, ◌*◌, ◌/◌, ◌%◌, ◌^◌, ◌<◌, ◌≤◌, true, false, T, ℤ, sym, ap, ◌∙◌, subst, true≢false, le_trans, le_of_eq, lt_of_lt_of_le, lt_of_le_of_lt, lt_irrefl, mul-le-mul_right, mul_assoc, mul-pos, pow-suc, lt_of_not-le, zero-mul, mul_right_comm, not-le_of_lt, mul-div_cancel, arith, lit≤, pow_pos, pow_mono, pow-add, shl_lt}
use native.Mathlib.Nat.{pow-succ'}
use lib.Count.{count_leading_zeros, leading_top}
use lib.Ieee.{Float, nan, inf, fin, Format, prec, low, hid, ones, up, down, of_bits, fits}
use lib.Ieee.Bits.{of_bits-fits}
use lib.Ieee.Exact.{HasValue}
use lib.Ieee.Fits.{down_pos, round-fits}
use lib.Ieee.Scale.{overflow}
use Rattle.leaves.specs.Root.{whole_root, rounded, root_in}
use Rattle.leaves.specs.Engine.{RootOfFraction}
use Rattle.leaves.proofs.Squares.{square_lt, square_odd}
use Rattle.leaves.proofs.WholeRoots.{is_root}
use Rattle.leaves.proofs.Values.{units_of_value, units_small, same_value}
use Rattle.leaves.proofs.Rounding.{root_rounds}
use Rattle.leaves.proofs.Packing.{prec_hid, packed}

pub rounded_fits : (f : Format) (n : ℕ) → T (fits f (rounded f n))
unfolding rounded
rounded_fits f n = round-fits f false _ _

-- a zero has no value above 0
none : (d : ℤ) (A g : ℕ) → 0 < A → zero * up d * 2 ^ g ≡ A * down d → ⊥
none d A g p e = lt_irrefl 0 (subst (λ (x : ℕ). 0 < x) (sym e ∙ ap (λ (x : ℕ). x * 2 ^ g) (zero-mul (up d)) ∙ zero-mul (2 ^ g)) (mul-pos p (down_pos d)))

at_least : (f : Format) (r : ℕ) → 2 ^ prec f ≤ r → hid f ≤ (r + 1) / 2
at_least f r h = go (2 ^ prec f) (hid f) (prec_hid f) h
  where
    go : (a b : ℕ) → a ≡ b * 2 → a ≤ r → b ≤ (r + 1) / 2
    go a b e l = omega arith

at_most : (f : Format) (r : ℕ) → r + 1 < 2 ^ suc (prec f) → (r + 1) / 2 < 2 * hid f
at_most f r h = go (2 ^ suc (prec f)) (2 ^ prec f) (hid f) (pow-suc 2 (prec f)) (prec_hid f) h
  where
    go : (c a b : ℕ) → c ≡ a * 2 → a ≡ b * 2 → r + 1 < c → (r + 1) / 2 < 2 * b
    go c a b e d l = omega arith

-- the root of a value A / 2 ^ g above zero
pub root_of_value : (f : Format) (x : Float) (A g j : ℕ) → 0 < A → HasValue x false A (2 ^ g) → 2 * (low f + 1) ≡ g + j → root_in f x ≡ rounded f (A * 2 ^ j)
unfolding root_in
root_of_value f nan A g j p v e = absurd v
root_of_value f (inf s) A g j p v e = absurd v
root_of_value f (fin true zero d) A g j p v e = absurd (none d A g p v.1)
root_of_value f (fin false zero d) A g j p v e = absurd (none d A g p v.1)
root_of_value f (fin true (suc m) d) A g j p v e = absurd (true≢false v.0)
root_of_value f (fin false (suc m) d) A g j p v e =
    ap (rounded f)
    (ap (λ (x : ℕ). suc m * up d * x / down d) (ap (λ (x : ℕ). 2 ^ x) e ∙ pow-add 2 g j)
    ∙ ap (λ (x : ℕ). x / down d) (sym (mul_assoc (suc m * up d) (2 ^ g) (2 ^ j)) ∙ ap (λ (x : ℕ). x * 2 ^ j) v.1 ∙ mul_right_comm A (down d) (2 ^ j))
    ∙ mul-div_cancel (A * 2 ^ j) (down_pos d))

module _ (f : Format) (x : Float) (significand h j g : ℕ) (e : 2 * (low f + 1) ≡ g + j) where
  pub even_root : HasValue x false (significand * 2 ^ (2 * h)) (2 ^ g)
      → 2 ^ prec f ≤ whole_root (significand * 2 ^ j) → whole_root (significand * 2 ^ j) + 1 < 2 ^ suc (prec f)
      → (whole_root (significand * 2 ^ j) % 2 ≡ 1 → whole_root (significand * 2 ^ j) * whole_root (significand * 2 ^ j) ≡ significand * 2 ^ j → ⊥)
      → 0 < significand → suc h < ones f → of_bits f (h * hid f + (whole_root (significand * 2 ^ j) + 1) / 2) ≡ root_in f x
  even_root v lo hi tie some small =
      let S = significand * 2 ^ j in
      let r = whole_root S in
      let q = (r + 1) / 2 in
      let p = packed f h q (at_least f r lo) (at_most f r hi) small in
      let fine : q * 2 ^ h < overflow f = subst (λ (z : ℕ). z < overflow f) (units_of_value f (of_bits f (h * hid f + q)) false (q * 2 ^ h) p) (units_small f (of_bits f (h * hid f + q)) (of_bits-fits f (h * hid f + q))) in
      let is : root_in f x ≡ rounded f (S * (2 ^ h * 2 ^ h)) = root_of_value f x (significand * 2 ^ (2 * h)) g j (mul-pos some (pow_pos (2 * h))) v e ∙ ap (rounded f) swap in
      same_value f (of_bits f (h * hid f + q)) (rounded f (S * (2 ^ h * 2 ^ h))) false (q * 2 ^ h) (2 ^ low f) (pow_pos (low f)) (of_bits-fits f (h * hid f + q)) (rounded_fits f (S * (2 ^ h * 2 ^ h)))
      p
      (root_rounds f S h lo (less r hi) tie fine)
      ∙ sym is
    where
      twice : (h : ℕ) → 2 * h ≡ h + h
      twice h = omega arith

      swap : significand * 2 ^ (2 * h) * 2 ^ j ≡ significand * 2 ^ j * (2 ^ h * 2 ^ h)
      swap = mul_right_comm significand (2 ^ (2 * h)) (2 ^ j) ∙ ap (λ (z : ℕ). significand * 2 ^ j * z) (ap (λ (z : ℕ). 2 ^ z) (twice h) ∙ pow-add 2 h h)

      less : {b : ℕ} (a : ℕ) → a + 1 < b → a < b
      less a h = omega arith

-- ---- the digits of an f64's significand, with 2 ^ 54 behind it

pub record FirstDigits (significand : ℕ) : Type 0 where
  pub enough : 2 ^ 53 ≤ whole_root (significand * 2 ^ 54)
  pub few : whole_root (significand * 2 ^ 54) + 1 < 2 ^ 54
  pub no_tie : whole_root (significand * 2 ^ 54) % 2 ≡ 1 → whole_root (significand * 2 ^ 54) * whole_root (significand * 2 ^ 54) ≡ significand * 2 ^ 54 → ⊥

pub first_digits : (significand : ℕ) → 2 ^ 52 ≤ significand → significand < 2 ^ 54 - 1 → FirstDigits significand
first_digits s lo hi =
    let r = is_root (s * 2 ^ 54) in
    let n = s * 2 ^ 54 in
    let low : 2 ^ 53 * 2 ^ 53 ≤ n = omega arith in
    let high : n < (2 ^ 54 - 1) * (2 ^ 54 - 1) = omega arith in
    let a : 2 ^ 53 < whole_root n + 1 = square_lt (lt_of_le_of_lt low r.past) in
    let b : whole_root n < 2 ^ 54 - 1 = square_lt (lt_of_le_of_lt r.reached high) in
    record { enough = omega arith; few = omega arith; no_tie = λ o e. odd_square (whole_root n) s o e }
  where
    odd_square : (r s : ℕ) → r % 2 ≡ 1 → r * r ≡ s * 2 ^ 54 → ⊥
    odd_square r s o e =
        let x : r ≡ 2 * (r / 2) + 1 = omega arith in
        let y : r * r ≡ 4 * (r / 2 * (r / 2)) + 4 * (r / 2) + 1 = ap (λ (z : ℕ). z * z) x ∙ square_odd (r / 2) in
        omega arith

-- ---- the same fraction with other powers of two

pub at_fraction : (r : Float) (a b places : ℕ) → a ≡ b → RootOfFraction r a places → RootOfFraction r b places
at_fraction r a b places e h = subst (λ (z : ℕ). RootOfFraction r z places) e h

-- an odd exponent gives one of its twos to the significand
pub odd_root : (r : Float) (s e : ℕ) → (e % 2 ≡ 0 → ⊥) → RootOfFraction r (s * 2 * 2 ^ (2 * (e / 2))) 2096 → RootOfFraction r (s * 2 ^ e) 2096
odd_root r s e h =
    at_fraction r (s * 2 * 2 ^ (2 * (e / 2))) (s * 2 ^ e) 2096
    (mul_assoc s 2 (2 ^ (2 * (e / 2))) ∙ ap (λ (z : ℕ). s * z) (sym (pow-succ' 2 (2 * (e / 2))) ∙ ap (λ (k : ℕ). 2 ^ k) (whole e h)))
  where
    whole : (e : ℕ) → (e % 2 ≡ 0 → ⊥) → suc (2 * (e / 2)) ≡ e
    whole e h = omega arith

-- num / 2 ^ places is num * 2 ^ j / 2 ^ (places + j)
raised : (x : Float) (a places j : ℕ) → HasValue x false a (2 ^ places) → HasValue x false (a * 2 ^ j) (2 ^ (places + j))
raised nan a places j v = v
raised (inf s) a places j v = v
raised (fin s m e) a places j v = (
  v.0,
  ap (λ (z : ℕ). m * up e * z) (pow-add 2 places j) ∙ sym (mul_assoc (m * up e) (2 ^ places) (2 ^ j)) ∙ ap (λ (z : ℕ). z * 2 ^ j) v.1 ∙ mul_right_comm a (down e) (2 ^ j),
)

pub lowered : (r : Float) (a places j : ℕ) → RootOfFraction r (a * 2 ^ j) (places + j) → RootOfFraction r a places
lowered r a places j h = record { is = λ x v. h.is x (raised x a places j v) }

pub lowered_power : (r : Float) (s k j n places : ℕ) → n ≡ k + j → RootOfFraction r (s * 2 ^ n) (places + j) → RootOfFraction r (s * 2 ^ k) places
lowered_power r s k j n places e h =
    lowered r (s * 2 ^ k) places j
    (at_fraction r (s * 2 ^ n) (s * 2 ^ k * 2 ^ j) (places + j) (ap (λ (z : ℕ). s * z) (ap (λ (z : ℕ). 2 ^ z) e ∙ pow-add 2 k j) ∙ sym (mul_assoc s (2 ^ k) (2 ^ j))) h)

-- ---- a subnormal's highest set digit, moved to the leading place

pub record Moved (low places : ℕ) : Type 0 where
  pub some : 1 ≤ places
  pub most : places ≤ 52
  pub reached : 2 ^ 52 ≤ low * 2 ^ places
  pub small : low * 2 ^ places < 2 ^ 53

pub moved : (low zeros : ℕ) → 0 < low → low < 2 ^ 52 → zeros ≡ count_leading_zeros 64 low → (11 ≤ zeros) × Moved low (zeros - 11)
moved low zeros p h e =
    let t = leading_top 64 low p (lt_of_lt_of_le h (lit≤ tt)) in
    let j = t.0 in
    let small : j < 52 = lt_of_not-le (λ g. not-le_of_lt h (le_trans (pow_mono g) t.2)) in
    let z : zeros + suc j ≡ 64 = ap (λ (w : ℕ). w + suc j) e ∙ t.1 in
    let k : zeros - 11 ≡ 52 - j = omega arith in (
      omega arith,
      record {
        some = omega arith;
        most = omega arith;
        reached = subst (λ (w : ℕ). 2 ^ 52 ≤ low * 2 ^ w) (sym k) (le_trans (le_of_eq (ap (λ (w : ℕ). 2 ^ w) (whole j small) ∙ pow-add 2 j (52 - j))) (mul-le-mul_right (2 ^ (52 - j)) t.2));
        small = subst (λ (w : ℕ). low * 2 ^ w < 2 ^ 53) (sym k) (subst (λ (w : ℕ). low * 2 ^ (52 - j) < 2 ^ w) (next j small) (shl_lt (suc j) (52 - j) t.3));
      },
    )
  where
    whole : (j : ℕ) → j < 52 → 52 ≡ j + (52 - j)
    whole j h = omega arith

    next : (j : ℕ) → j < 52 → suc j + (52 - j) ≡ 53
    next j h = omega arith
