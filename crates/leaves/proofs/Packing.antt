-- A value by the fields of its bits: h * hid + q, with q between hid and twice hid, are the bits of q * 2 ^ h of the
-- format's smallest values; and a value above zero is what its fields say.
-- Assumes nothing.
use Rattle.std.proofs.Common.{◌≡◌, ℕ, zero, suc, ◌+◌, ◌-◌, ◌*◌, ◌/◌, ◌%◌, ◌^◌, ◌<◌, ◌≤◌, Bool, true, false, cond, not, T, eqb, leb, pos, sym, refl, ap, ◌∙◌, subst, zero-le, lt_of_le_of_lt, lt_irrefl, mod-eq_of_lt, suc-mul, mul_comm, mul-pos, pow-suc, mul-one, arith, eqb→eq, ltb→lt, lt→ltb, pow_pos}
use Rattle.std.proofs.lemmas.Bool.{ne_eqb}
use Rattle.std.proofs.lemmas.Float.{T_from_false}
use lib.Dec.{eqb_refl, nleb→lt}
use lib.Arith.{digits_div, digits_mod, digits_lt, lt→nleb}
use lib.Ieee.{Float, nan, inf, fin, Format, prec, emax, low, hid, ones, top, odd, of_fields, of_bits, to_bits, lt, fits, is_nan, nan_bits, up, down}
use lib.Ieee.Bits.{of_bits-to_bits, nan_bits_is, is_false}
use lib.Ieee.Exact.{HasValue, odd_sign}
use lib.Ieee.Fits.{up_pos, two}
use lib.Ieee.Positive.{above, first_pos}

-- 2 ^ prec is twice the weight of the leading digit
pub prec_hid : (f : Format) → 2 ^ prec f ≡ hid f * 2
prec_hid f = ap (λ (x : ℕ). 2 ^ x) (sym (go (prec f) (two f))) ∙ pow-suc 2 (prec f - 1)
  where
    go : (b : ℕ) → 2 ≤ b → suc (b - 1) ≡ b
    go b t = omega arith

-- ---- from fields to a value

normal_fields : (f : Format) (s : Bool) (x t : ℕ) → suc x < ones f → of_fields f s (suc x) t ≡ odd (prec f) s (hid f + t) x (low f)
unfolding of_fields
normal_fields f s x t h = ap (λ (b : Bool). cond b (cond (eqb t 0) (inf s) nan) (odd (prec f) s (hid f + t) x (low f))) (ne_eqb (suc x) (ones f) (λ e. lt_irrefl (ones f) (subst (λ (z : ℕ). z < ones f) e h)))

fields_of : (f : Format) (x t : ℕ) → t < hid f → x < suc (ones f) → of_bits f (x * hid f + t) ≡ of_fields f false x t
unfolding of_bits
fields_of f x t l h =
    let b = x * hid f + t in
    let small : b < top f = subst (λ (z : ℕ). b < z) (mul_comm (suc (ones f)) (hid f)) (digits_lt h l) in
    let e : b % top f ≡ b = mod-eq_of_lt small in
    ap (λ (z : Bool). of_fields f z (b % top f / hid f) (b % hid f)) (is_false (leb (top f) b) (lt→nleb (top f) b small))
    ∙ ap (λ (z : ℕ). of_fields f false (z / hid f) (b % hid f)) e
    ∙ ap (λ (z : ℕ). of_fields f false z (b % hid f)) (digits_div x l)
    ∙ ap (λ (z : ℕ). of_fields f false x z) (digits_mod x l)

pub packed : (f : Format) (h q : ℕ) → hid f ≤ q → q < 2 * hid f → suc h < ones f → HasValue (of_bits f (h * hid f + q)) false (q * 2 ^ h) (2 ^ low f)
packed f h q lo hi small =
    let t = q - hid f in
    let e : hid f + t ≡ q = back (hid f) q lo in
    let b : h * hid f + q ≡ suc h * hid f + t = shift (h * hid f) (hid f) q lo ∙ ap (λ (z : ℕ). z + t) (sym (suc-mul h (hid f))) in
    let is : of_bits f (h * hid f + q) ≡ odd (prec f) false q h (low f) =
    ap (λ (z : ℕ). of_bits f z) b ∙ fields_of f (suc h) t (under (hid f) q lo hi) (more (suc h) (ones f) small) ∙ normal_fields f false h t small ∙ ap (λ (z : ℕ). odd (prec f) false z h (low f)) e in
    subst (λ (x : Float). HasValue x false (q * 2 ^ h) (2 ^ low f)) (sym is) (odd_sign (prec f) false q h (low f))
  where
    back : (a b : ℕ) → a ≤ b → a + (b - a) ≡ b
    back a b h = omega arith

    shift : (x a b : ℕ) → a ≤ b → x + b ≡ x + a + (b - a)
    shift x a b h = omega arith

    under : (a b : ℕ) → a ≤ b → b < 2 * a → b - a < a
    under a b h k = omega arith

    more : (a b : ℕ) → a < b → a < suc b
    more a b h = omega arith

-- so those bits are no NaN's
pub packed_number : (f : Format) (h q : ℕ) → hid f ≤ q → q < 2 * hid f → suc h < ones f → T (not (nan_bits f (h * hid f + q)))
unfolding is_nan
packed_number f h q lo hi small = subst (λ (b : Bool). T (not b)) (sym (nan_bits_is f (h * hid f + q))) (number (of_bits f (h * hid f + q)) (packed f h q lo hi small))
  where
    number : (x : Float) → HasValue x false (q * 2 ^ h) (2 ^ low f) → T (not (is_nan x))
    number nan v = absurd v
    number (inf s) v = absurd v
    number (fin s m e) v = tt

-- ---- from a value to its fields

value_sign : (y : Float) (s : Bool) (a c : ℕ) → HasValue y s a c → T (above y) → s ≡ false
value_sign nan s a c v h = absurd v
value_sign (inf t) s a c v h = absurd v
value_sign (fin true m e) s a c v h = absurd h
value_sign (fin false m e) s a c v h = sym v.0

-- a value above zero that has the fields of the sign s has no sign
signed : (f : Format) (s : Bool) (x t : ℕ) → T (above (of_fields f s x t)) → s ≡ false
unfolding of_fields
signed f s zero t h = value_sign (odd (prec f) s t 0 (low f)) s (t * 2 ^ 0) (2 ^ low f) (odd_sign (prec f) s t 0 (low f)) h
signed f s (suc x) t h = split (eqb (suc x) (ones f)) (eqb t 0) h
  where
    infinite : (b : Bool) → T (not b) → b ≡ false
    infinite b h = is_false b h

    split : (b c : Bool) → T (above (cond b (cond c (inf s) nan) (odd (prec f) s (hid f + t) x (low f)))) → s ≡ false
    split true true h = infinite s h
    split true false h = absurd h
    split false c h = value_sign (odd (prec f) s (hid f + t) x (low f)) s ((hid f + t) * 2 ^ x) (2 ^ low f) (odd_sign (prec f) s (hid f + t) x (low f)) h

-- what is greater than +0 is above zero
pub above_zero : (x : Float) → T (lt (fin false 0 (pos 0)) x) → T (above x)
unfolding lt
above_zero nan h = h
above_zero (inf s) h = h
above_zero (fin true m e) h = h
above_zero (fin false m e) h = lt→ltb 0 m (first_pos m (up e) (first_pos (m * up e) 1 (lt_of_le_of_lt zero-le (ltb→lt (0 * 1 * down e) (m * up e * 1) h))))

-- what the exponent's field and the digits below it say of a value above zero
pub record Unpacked (f : Format) (y : Float) (field t : ℕ) : Type 0 where
  pub infinite : field ≡ ones f → y ≡ inf false
  pub subnormal : field ≡ 0 → (0 < t) × HasValue y false t (2 ^ low f)
  pub normal : (field ≡ ones f → ⊥) → (field ≡ 0 → ⊥) → HasValue y false ((hid f + t) * 2 ^ (field - 1)) (2 ^ low f)

-- a value above zero is not 0
value_above : (y : Float) (a c : ℕ) → HasValue y false a c → T (above y) → 0 < c → 0 < a
value_above nan a c v h p = absurd v
value_above (inf t) a c v h p = absurd v
value_above (fin true m e) a c v h p = absurd h
value_above (fin false m e) a c v h p = first_pos a (down e) (subst (λ (z : ℕ). 0 < z) v.1 (mul-pos (mul-pos (ltb→lt 0 m h) (up_pos e)) p))

of_fields_lem : (f : Format) (x t : ℕ) → T (above (of_fields f false x t)) → Unpacked f (of_fields f false x t) x t
unfolding of_fields
of_fields_lem f zero t h =
    let v : HasValue (odd (prec f) false t 0 (low f)) false t (2 ^ low f) = subst (λ (z : ℕ). HasValue (odd (prec f) false t 0 (low f)) false z (2 ^ low f)) (mul-one t) (odd_sign (prec f) false t 0 (low f)) in
    record {
      infinite = λ e. absurd (not_none (emax f) e);
      subnormal = λ e. (value_above (odd (prec f) false t 0 (low f)) t (2 ^ low f) v h (pow_pos (low f)), v);
      normal = λ p q. absurd (q refl);
    }
  where
    not_none : (e : ℕ) → ◌≡◌ {A = ℕ} 0 (2 * e + 1) → ⊥
    not_none e h = omega arith
of_fields_lem f (suc x) t h = split (eqb (suc x) (ones f)) (eqb t 0) (eqb→eq (suc x) (ones f)) (λ (e : suc x ≡ ones f). subst (λ (z : ℕ). T (eqb (suc x) z)) e (eqb_refl (suc x))) h
  where
    no_suc : (x : ℕ) → suc x ≡ 0 → ⊥
    no_suc x e = omega arith

    one_less : (x : ℕ) → x ≡ suc x - 1
    one_less x = omega arith

    split : (b c : Bool) → (T b → suc x ≡ ones f) → (suc x ≡ ones f → T b) → T (above (cond b (cond c (inf false) nan) (odd (prec f) false (hid f + t) x (low f))))
        → Unpacked f (cond b (cond c (inf false) nan) (odd (prec f) false (hid f + t) x (low f))) (suc x) t
    split true true p q h = record { infinite = λ e. refl; subnormal = λ e. absurd (no_suc x e); normal = λ n z. absurd (n (p tt)) }
    split true false p q h = absurd h
    split false c p q h = record {
      infinite = λ e. absurd (q e);
      subnormal = λ e. absurd (no_suc x e);
      normal = λ n z. subst (λ (k : ℕ). HasValue (odd (prec f) false (hid f + t) x (low f)) false ((hid f + t) * 2 ^ k) (2 ^ low f)) (one_less x) (odd_sign (prec f) false (hid f + t) x (low f));
    }

bits_of_lem : (f : Format) (b : ℕ) → T (above (of_bits f b)) → (b < top f) × Unpacked f (of_bits f b) (b / hid f) (b % hid f)
unfolding of_bits
bits_of_lem f b h =
    let s : leb (top f) b ≡ false = signed f (leb (top f) b) (b % top f / hid f) (b % hid f) h in
    let small : b < top f = nleb→lt (top f) b (T_from_false _ s) in
    let e : of_fields f (leb (top f) b) (b % top f / hid f) (b % hid f) ≡ of_fields f false (b / hid f) (b % hid f) =
    ap (λ (z : Bool). of_fields f z (b % top f / hid f) (b % hid f)) s ∙ ap (λ (z : ℕ). of_fields f false (z / hid f) (b % hid f)) (mod-eq_of_lt small) in
    (small, subst (λ (y : Float). Unpacked f y (b / hid f) (b % hid f)) (sym e) (of_fields_lem f (b / hid f) (b % hid f) (subst (λ (y : Float). T (above y)) e h)))

pub unpacked : (f : Format) (x : Float) → T (fits f x) → T (above x) → (to_bits f x < top f) × Unpacked f x (to_bits f x / hid f) (to_bits f x % hid f)
unpacked f x fit h =
    let e = of_bits-to_bits f x fit in
    subst (λ (y : Float). (to_bits f x < top f) × Unpacked f y (to_bits f x / hid f) (to_bits f x % hid f)) e (bits_of_lem f (to_bits f x) (subst (λ (y : Float). T (above y)) (sym e) h))
