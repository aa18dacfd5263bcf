-- The digit engine's loop, over plain numbers: n is the radicand, found the digits so far, `place` digits are still to
-- be found, and left * 2 ^ place is twice what is left of n.
-- A step finds the digit of weight w = 2 ^ (place - 1): it is 1 where (found + w) * (found + w) ≤ n, which is where 2 *
-- found + w ≤ left. Assumes nothing.
use Rattle.std.proofs.Common.{◌≡◌, ℕ, zero, suc, ◌+◌, ◌-◌, ◌*◌, ◌/◌, ◌%◌, ◌^◌, ◌<◌, ◌≤◌, Bool, true, false, not, T, leb, sym, ap, ◌∙◌, subst, le_trans, le_of_suc-le-suc, add-zero, lt_irrefl, mul_assoc, mul_comm, add-mul, lt_of_mul-lt-mul_right, mul-lt-mul_of_pos_right, one-mul, pow-suc, lt_of_not-le, mul-zero, zero-mul, mul-one, mul_right_comm, not-le_of_lt, le-add_left, arith, lit≤, leb→le, pow_pos}
use native.Mathlib.Nat.{sub-zero}
use Rattle.std.proofs.lemmas.Nat.{one_shl, shl_whole}
use lib.Dec.{nleb→lt}
use lib.Pow.{pow-lt}
use Rattle.std.specs.Int.{from_bool}
use Rattle.leaves.specs.Root.{whole_root}
use Rattle.leaves.proofs.Squares.{square_add}
use Rattle.leaves.proofs.WholeRoots.{root_is}

-- 1 where the step can be taken off what is left, else 0
abbrev pub digit_of : ℕ → ℕ → ℕ
digit_of step left = from_bool (leb step left)

pub record Found (n found left place : ℕ) : Type 0 where
  pub small : found + 2 ^ place ≤ 2 ^ 54
  pub exact : 2 * (found * found) + left * 2 ^ place ≡ 2 * n
  pub near : n < (found + 2 ^ place) * (found + 2 ^ place)

-- ---- bounds

-- left * w is below twice (found + w) * (found + w) - found * found
below_four : (n found left w : ℕ) → 0 < w → 2 * (found * found) + left * w ≡ 2 * n → n < (found + w) * (found + w) → left < 4 * found + 2 * w
below_four n found left w pos e h =
    let x : (4 * found + 2 * w) * w ≡ 4 * (found * w) + 2 * (w * w) = add-mul (4 * found) (2 * w) w ∙ regroup found w in
    lt_of_mul-lt-mul_right w (omega (arith, square_add found w))
  where
    regroup : (f w : ℕ) → 4 * f * w + 2 * w * w ≡ 4 * (f * w) + 2 * (w * w)
    regroup f w = omega (arith, mul_assoc 4 f w, mul_assoc 2 w w)

pub left_small : (n found left place : ℕ) → Found n found left place → left < 2 ^ 56
left_small n found left place h = let l = below_four n found left (2 ^ place) (pow_pos place) h.exact h.near in omega (arith, h.small)

-- ---- one step, over the weight w of the digit

-- the digit is 1
one : (n found left w : ℕ) → 2 * (found * found) + left * (w * 2) ≡ 2 * n → found + found + w ≤ left → 2 * ((found + w) * (found + w)) + (left - (found + found + w)) * 2 * w ≡ 2 * n
one n found left w e l =
    let d = left - (found + found + w) in
    let x : left ≡ found + found + w + d = omega arith in
    let y : left * (w * 2) ≡ 4 * (found * w) + 2 * (w * w) + d * 2 * w = ap (λ (z : ℕ). z * (w * 2)) x ∙ spread found w d in
    omega (arith, square_add found w)
  where
    spread : (f w d : ℕ) → (f + f + w + d) * (w * 2) ≡ 4 * (f * w) + 2 * (w * w) + d * 2 * w
    spread f w d = simp add-mul (omega (arith, mul_assoc f w 2, mul_assoc w w 2, mul_assoc d w 2, mul_right_comm d 2 w))

-- the digit is 0
none : (n found left w : ℕ) → 0 < w → 2 * (found * found) + left * (w * 2) ≡ 2 * n → left < found + found + w → (2 * (found * found) + left * 2 * w ≡ 2 * n) × (n < (found + w) * (found + w))
none n found left w pos e l =
    let y : left * (w * 2) ≡ left * 2 * w = sym (mul_assoc left w 2) ∙ mul_right_comm left w 2 in
    let z : left * w < (found + found + w) * w = mul-lt-mul_of_pos_right l pos in
    let u : (found + found + w) * w ≡ 2 * (found * w) + w * w = spread found w in
    let v : left * 2 * w ≡ 2 * (left * w) = mul_right_comm left 2 w ∙ mul_comm (left * w) 2 in
    (omega arith, omega (arith, square_add found w))
  where
    spread : (f w : ℕ) → (f + f + w) * w ≡ 2 * (f * w) + w * w
    spread f w = simp add-mul (omega arith)

-- ---- what a digit d of a step s does: it is taken off what is left, and the digits found are right to its place

pub record Stepped (n found left place s d : ℕ) : Type 0 where
  pub single : d ≤ 1
  pub fits : s * d ≤ left
  pub next : Found n (found + d * 2 ^ place) ((left - s * d) * 2) place

stepped_one : (n found left place : ℕ) → Found n found left (suc place) → found + found + 2 ^ place ≤ left → Stepped n found left place (found + found + 2 ^ place) 1
stepped_one n found left place h l =
    let w = 2 ^ place in
    let s = found + found + w in
    let e : 2 ^ suc place ≡ w * 2 = pow-suc 2 place in
    let exact : 2 * (found * found) + left * (w * 2) ≡ 2 * n = subst (λ (z : ℕ). 2 * (found * found) + left * z ≡ 2 * n) e h.exact in
    let next : Found n (found + w) ((left - s) * 2) place =
    record { small = omega (arith, h.small); exact = one n found left w exact l; near = subst (λ (z : ℕ). n < z * z) (twice found w e) h.near } in
    record {
      single = lit≤ tt;
      fits = subst (λ (z : ℕ). z ≤ left) (sym (mul-one s)) l;
      next = subst (λ (z : ℕ). Found n (found + z) ((left - s * 1) * 2) place) (sym (one-mul w)) (subst (λ (z : ℕ). Found n (found + w) ((left - z) * 2) place) (sym (mul-one s)) next);
    }
  where
    twice : (f w : ℕ) {z : ℕ} → z ≡ w * 2 → f + z ≡ f + w + w
    twice f w e = omega arith

stepped_none : (n found left place : ℕ) → Found n found left (suc place) → left < found + found + 2 ^ place → Stepped n found left place (found + found + 2 ^ place) 0
stepped_none n found left place h l =
    let w = 2 ^ place in
    let s = found + found + w in
    let e : 2 ^ suc place ≡ w * 2 = pow-suc 2 place in
    let exact : 2 * (found * found) + left * (w * 2) ≡ 2 * n = subst (λ (z : ℕ). 2 * (found * found) + left * z ≡ 2 * n) e h.exact in
    let r = none n found left w (pow_pos place) exact l in
    let next : Found n found (left * 2) place = record { small = omega (arith, h.small); exact = r.0; near = r.1 } in
    record {
      single = lit≤ tt;
      fits = omega (arith, mul-zero s);
      next = subst (λ (z : ℕ). Found n z ((left - s * 0) * 2) place) (sym (ap (λ (z : ℕ). found + z) (zero-mul w) ∙ add-zero found)) (subst (λ (z : ℕ). Found n found (z * 2) place) (sym (ap (λ (z : ℕ). left - z) (mul-zero s) ∙ sub-zero left)) next);
    }

pub stepped : (n found left place : ℕ) → Found n found left (suc place) → Stepped n found left place (found + found + 2 ^ place) (digit_of (found + found + 2 ^ place) left)
stepped n found left place h = go (leb (found + found + 2 ^ place) left) (leb→le (found + found + 2 ^ place) left) (nleb→lt (found + found + 2 ^ place) left)
  where
    go : (b : Bool) → (T b → found + found + 2 ^ place ≤ left) → (T (not b) → left < found + found + 2 ^ place) → Stepped n found left place (found + found + 2 ^ place) (from_bool b)
    go true p q = stepped_one n found left place h (p tt)
    go false p q = stepped_none n found left place h (q tt)

-- a digit that is shifted to its place loses nothing: at most 54 places are used
pub shifted : (place digit : ℕ) → place < 54 → digit ≤ 1 → digit * 2 ^ place % 2 ^ 64 ≡ digit * 2 ^ place
shifted place digit p d = shl_whole digit 1 place 64 (omega arith) (omega arith)

pub few_places : (n found left place : ℕ) → Found n found left place → place ≤ 54
few_places n found left place h = le_of_suc-le-suc (lt_of_not-le (λ (g : 55 ≤ place). not-le_of_lt (pow-lt {i = 54} g) (le_trans (le-add_left (2 ^ place) found) h.small)))

-- ---- no digit is left to be found

pub finished : (n found left : ℕ) → Found n found left 0 → (whole_root n ≡ found) × (n - found * found ≡ left / 2)
finished n found left h = (root_is n found (record { reached = omega (arith, h.exact); past = h.near }), omega (arith, h.exact))

-- ---- a turn of the loop, with the digit of the given place to be found

pub record Turn (n found left place : ℕ) : Type 0 where
  pub below : place < 54
  pub room : found + 2 ^ place * 2 ≤ 2 ^ 54
  pub rest : left < 2 ^ 56
  pub weight : 1 * 2 ^ place % 2 ^ 64 ≡ 2 ^ place
  pub step : Stepped n found left place (found + found + 2 ^ place) (digit_of (found + found + 2 ^ place) left)

pub turn : (n found left place : ℕ) → Found n found left place → 0 < place → Turn n found left (place - 1)
turn n found left zero h p = absurd (lt_irrefl 0 p)
turn n found left (suc place) h p = subst (Turn n found left) (less place) (at place h)
  where
    less : (place : ℕ) → place ≡ suc place - 1
    less place = omega arith

    at : (place : ℕ) → Found n found left (suc place) → Turn n found left place
    at place h =
        let few = few_places n found left (suc place) h in
        let below : place < 54 = omega arith in
        record {
          below = below;
          room = subst (λ (z : ℕ). found + z ≤ 2 ^ 54) (pow-suc 2 place) h.small;
          rest = left_small n found left (suc place) h;
          weight = one_shl place 64 (omega arith);
          step = stepped n found left place h;
        }

-- the same with the weight and the digit as the code has them, shifted to their place
pub record Turned (n found left place weight d : ℕ) : Type 0 where
  pub fits : (found + found + weight) * d ≤ left
  pub next : Found n (found + d * 2 ^ place % 2 ^ 64) ((left - (found + found + weight) * d) * 2) place

pub turned : (n found left place weight d : ℕ) → Turn n found left place → weight ≡ 2 ^ place → d ≡ digit_of (found + found + weight) left → Turned n found left place weight d
turned n found left place weight d t w e =
    let i : d ≡ digit_of (found + found + 2 ^ place) left = e ∙ ap (λ (z : ℕ). digit_of (found + found + z) left) w in
    let s : Stepped n found left place (found + found + weight) d = subst (λ (z : ℕ). Stepped n found left place (found + found + z) d) (sym w) (subst (Stepped n found left place (found + found + 2 ^ place)) (sym i) t.step) in
    record {
      fits = s.fits;
      next = subst (λ (z : ℕ). Found n (found + z) ((left - (found + found + weight) * d) * 2) place) (sym (shifted place d t.below s.single)) s.next;
    }
