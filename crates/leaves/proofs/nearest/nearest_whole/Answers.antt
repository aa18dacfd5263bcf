-- `leaves::nearest::nearest_whole` is `round_of`. x is a / c. Below 2 ^ (prec - 1) the format holds twice x, so the sum
-- is exact and n is the whole part of 2a / c.
-- Then (n + 1) / 2 is the whole part of (2a + c) / 2c, and is small enough to be cast without loss.
use Rattle.std.proofs.Common.{◌≡◌, ℕ, suc, ◌+◌, ◌*◌, ◌/◌, ◌^◌, ◌<◌, ◌≤◌, true, false, T, ℤ, pos, sym, ap, ◌∙◌, subst, true≢false, lt_of_lt_of_le, mul_assoc, mul_comm, div-lt_iff_lt-mul, lt_of_mul-lt-mul_right, mul-lt-mul_of_pos_right, mul-pos, pow-suc, mul_left_comm, two-mul, arith, le→leb, ltb→lt, lt→ltb, pow_pos, pow_mono, pow-add}
use Rattle.std.proofs.lemmas.Float.{T_from_true}
use native.Mathlib.Nat.{add-div_right, div-div-eq-div-mul, min-eq_left}
use lib.Ieee.{Float, nan, inf, fin, Format, binary64, prec, emax, low, hid, up, down, round, sum, add, lt, of_int, to_unsigned, in_float, fits, of_bits}
use lib.Ieee.Exact.{HasValue, round_exact}
use lib.Ieee.Fits.{down_pos, reach}
use lib.Ieee.Nearest.{div_same}
use lib.Ieee.Scale.{overflow, round_same}
use Rattle.leaves.specs.Constants.{plus_zero}
use Rattle.leaves.specs.Round.{nearest_whole, round_of}
use Rattle.leaves.proofs.Packing.{prec_hid}
use Rattle.leaves.proofs.Values.{held as in_format, shifted}
use Rattle.leaves.proofs.nearest.nearest_whole.Goals as goal

-- x units are twice a / c, which is below b
bounded : (x a c l b : ℕ) → 0 < l → 2 * a * l ≡ x * c → a < b * c → x < b * 2 * l
bounded x a c l b L e h =
    lt_of_mul-lt-mul_right c (omega (arith, mul_assoc 2 a l, mul-lt-mul_of_pos_right h L, swap))
  where
    swap : b * 2 * l * c ≡ 2 * (b * c * l)
    swap = simp (mul_assoc, mul_comm, mul_left_comm)

same_sum : (a c : ℕ) → (a * c + a * c) * c ≡ 2 * a * (c * c)
same_sum a c = ap (λ (x : ℕ). x * c) (sym (two-mul (a * c))) ∙ simp mul_assoc

room : (f : Format) → hid f * 2 * 2 ^ low f ≤ overflow f
room f = subst (λ (x : ℕ). x ≤ overflow f) (pow-add 2 (prec f) (low f) ∙ ap (λ (x : ℕ). x * 2 ^ low f) (prec_hid f)) (pow_mono (go (prec f) (low f) (suc (emax f)) (reach f)))
  where
    go : (p l t : ℕ) → p ≤ t → p + l ≤ l + t
    go p l t h = omega arith

double : (f : Format) (m : ℕ) (e : ℤ) → T (fits f (fin false m e)) → m * up e < hid f * down e → HasValue (add f (fin false m e) (fin false m e)) false (2 * (m * up e)) (down e)
unfolding add sum
double f m e h small =
    let a = m * up e in
    let c = down e in
    let l = 2 ^ low f in
    let j = shifted f false m e h in
    let C : 0 < c = down_pos e in
    let twice : 2 * a * l ≡ m * 2 ^ suc j.0 * c = mul_assoc 2 a l ∙ ap (λ (x : ℕ). 2 * x) j.1 ∙ twice_units m (2 ^ j.0) c ∙ ap (λ (x : ℕ). m * x * c) (sym (pow-suc 2 j.0)) in
    let fine : m * 2 ^ suc j.0 < overflow f = lt_of_lt_of_le (bounded (m * 2 ^ suc j.0) a c l (hid f) (pow_pos (low f)) twice small) (room f) in
    let is : round f false (a * c + a * c) (c * c) ≡ round f false (2 * a) c = round_same f false (a * c + a * c) (c * c) (2 * a) c (mul-pos C C) C (same_sum a c) in
    subst (λ (x : Float). HasValue x false (2 * a) c) (sym is) (round_exact f false (2 * a) c m (suc j.0) C (in_format f false m e h).digits fine twice)
  where
    twice_units : (m p c : ℕ) → 2 * (m * p * c) ≡ m * (p * 2) * c
    twice_units m p c = simp (mul_assoc, mul_comm, mul_left_comm)

cut : (y : Float) (a c : ℕ) → 0 < c → HasValue y false a c → a < 2 ^ 53 * c → T (lt (fin true 1 (pos 0)) y) × T (lt y (fin false 1 (pos 64))) × (to_unsigned 64 y ≡ a / c)
unfolding lt to_unsigned
cut nan a c C v h = absurd v
cut (inf s) a c C v h = absurd v
cut (fin true m e) a c C v h = absurd (true≢false v.0)
cut (fin false m e) a c C v h =
    let is : m * up e / down e ≡ a / c = div_same (m * up e) (down e) a c (down_pos e) C v.1 in
    let small : m * up e / down e < 2 ^ 53 = subst (λ (x : ℕ). x < 2 ^ 53) (sym is) ((div-lt_iff_lt-mul C).1 h) in
    let under : m * up e < 2 ^ 53 * down e = (div-lt_iff_lt-mul (down_pos e)).0 small in
    (lt→ltb 0 (1 * 2 ^ 0 * down e + m * up e * 1) (omega (arith, down_pos e)), lt→ltb (m * up e * 1) (1 * 2 ^ 64 * down e) (omega arith), min-eq_left (omega arith) ∙ is)

halves : (a c : ℕ) → 0 < c → (2 * a / c + 1) / 2 ≡ nearest_whole a c
halves a c C = ap (λ (x : ℕ). x / 2) (sym (add-div_right (2 * a) C)) ∙ div-div-eq-div-mul (2 * a + c) c 2 ∙ ap (λ (x : ℕ). (2 * a + c) / x) (mul_comm c 2)

record Halved (x : Float) : Type 0 where
  lower : T (lt (fin true 1 (pos 0)) (add binary64 x x))
  upper : T (lt (add binary64 x x) (fin false 1 (pos 64)))
  small : to_unsigned 64 (add binary64 x x) < 2 ^ 53
  is : round binary64 false ((to_unsigned 64 (add binary64 x x) + 1) / 2) 1 ≡ round_of x

halved : (x : Float) → T (fits binary64 x) → T (lt plus_zero x) → T (lt x (of_bits binary64 0x4330000000000000)) → Halved x
unfolding lt of_bits round_of
halved nan h p q = absurd p
halved (inf true) h p q = absurd p
halved (inf false) h p q = absurd q
halved (fin true m e) h p q = absurd p
halved (fin false m e) h p q =
    let a = m * up e in
    let c = down e in
    let C : 0 < c = down_pos e in
    let below : a < hid binary64 * c = omega (arith, ltb→lt (a * 1) (1 * 2 ^ 52 * c) q) in
    let twice : 2 * a < 2 ^ 53 * c = omega arith in
    let k = cut (add binary64 (fin false m e) (fin false m e)) (2 * a) c C (double binary64 m e h below) twice in
    record {
      lower = k.0;
      upper = k.1;
      small = subst (λ (n : ℕ). n < 2 ^ 53) (sym k.2) ((div-lt_iff_lt-mul C).1 twice);
      is = ap (λ (n : ℕ). round binary64 false ((n + 1) / 2) 1) k.2 ∙ ap (λ (n : ℕ). round binary64 false n 1) (halves a c C);
    }

held : (c : goal.Start) → T (fits binary64 c.args.x)
held c = T_from_true _ c.well_formed.0.1

at : (c : goal.Start) → Halved c.args.x
at c = halved c.args.x (held c) c.requires.above_zero c.requires.below

pub truncating_f64_to_u64-halves-requires-clause-lower_bound : goal.truncating_f64_to_u64-halves-requires-clause-lower_bound
truncating_f64_to_u64-halves-requires-clause-lower_bound c = (at c).lower

pub truncating_f64_to_u64-halves-requires-clause-upper_bound : goal.truncating_f64_to_u64-halves-requires-clause-upper_bound
truncating_f64_to_u64-halves-requires-clause-upper_bound c = (at c).upper

pub overflow_add-result : goal.overflow_add-result
overflow_add-result c = omega (arith, (at c.before).small)

in_float_lem : (n : ℕ) → n ≤ 2 ^ 53 → T (in_float binary64 (pos n))
unfolding in_float
in_float_lem n h = le→leb n (2 ^ 53) h

pub int_to_float-result : goal.int_to_float-result
int_to_float-result c = in_float_lem _ (omega (arith, (at c.before.before).small, c.truncating_f64_to_u64-halves.ensures))

pub returns : goal.returns
unfolding of_int
returns c = ap (λ (n : ℕ). round binary64 false ((n + 1) / 2) 1) c.truncating_f64_to_u64-halves.ensures ∙ (at c.before.before).is
