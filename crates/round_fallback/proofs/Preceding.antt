-- The order of the angles: less, or −0 before +0. One way only; of numbers, that is values of the format that are no
-- NaN, it goes on from one to the next, and two of which neither precedes the other are the same.
use mathlib.Core.Path.{◌≡◌, refl, sym, ◌∙◌, subst}
use mathlib.Core.Bool.{Bool, true, false, not, cond, ◌&&◌, ◌||◌, true≢false}
use lib.Dec.{T, T_not}
use lib.Ieee.{Float, fin, binary64, of_bits, fits, is_nan, lt, eq, le, div}
use lib.Ieee.Fits.{div-fits}
use Rattle.std.specs.Prelude.{pos}
use Rattle.std.specs.Ordering.{ordering_then, nan_last_cmp}
use Rattle.std.proofs.Common.{is_lt}
use Rattle.std.specs.declared.cmp.Ordering.{Ordering}
use Rattle.std.specs.declared.cmp.Ordering.TheVariants.{Less, Equal, Greater}
use Rattle.leaves.specs.Constants.{plus_zero, one}
use Rattle.leaves.proofs.Values.{sign}
use Rattle.leaves.proofs.Order.{lt_asym, eq→le, eq→not_lt, eq_sym, le→not_lt, not_lt→le, le_antisym, float_le_trans, zero_of_eq, same_nonzero}
use Rattle.leaves.proofs.Patterns.{one_over_number}
use Rattle.round_fallback.specs.Cylinder.{precedes}
use Rattle.round_fallback.specs.Sorted.{Numeric}

-- ---- one way only

-- less one way (l), or level (e) and then less by the sign (d): not the other way (l', e', d')
one_way : (l l' e e' d d' : Bool) → (T l → T l' → ⊥) → (T l → T e' → ⊥) → (T e → T l' → ⊥) → (T d → T d' → ⊥) → (l || (e && d)) ≡ true → (l' || (e' && d')) ≡ false
one_way l true e e' d d' p q r s t = absurd (by l e d p r t)
  where
    by : (l e d : Bool) → (T l → Unit {0} → ⊥) → (T e → Unit {0} → ⊥) → (l || (e && d)) ≡ true → ⊥
    by true e d p r t = p tt tt
    by false true d p r t = r tt tt
    by false false d p r t = true≢false (sym t)
one_way l false e false d d' p q r s t = refl
one_way l false e true d false p q r s t = refl
one_way l false e true d true p q r s t = absurd (by l e d q s t)
  where
    by : (l e d : Bool) → (T l → Unit {0} → ⊥) → (T d → Unit {0} → ⊥) → (l || (e && d)) ≡ true → ⊥
    by true e d q s t = q tt tt
    by false true true q s t = s tt tt
    by false true false q s t = true≢false (sym t)
    by false false d q s t = true≢false (sym t)

pub precedes_asym : (x y : Float) → precedes x y ≡ true → precedes y x ≡ false
unfolding precedes
precedes_asym x y t =
    one_way (lt x y) (lt y x) (eq x y) (eq y x) (lt (div binary64 one x) (div binary64 one y)) (lt (div binary64 one y) (div binary64 one x))
    (lt_asym x y)
    (λ l e. T_not (lt x y) (eq→not_lt y x e) l)
    (λ e l. T_not (lt y x) (eq→not_lt x y e) l)
    (lt_asym (div binary64 one x) (div binary64 one y))
    t

-- ---- from one to the next

-- neither less (l), nor level (e) and less by the sign (d)
parts : (l e d : Bool) → (l || (e && d)) ≡ false → T (not l) × (T e → T (not d))
parts true e d t = absurd (true≢false t)
parts false true d t = (tt, λ h. subst (λ (b : Bool). T (not b)) (sym t) tt)
parts false false d t = (tt, λ h. absurd h)

whole : (l e d : Bool) → T (not l) → (T e → T (not d)) → (l || (e && d)) ≡ false
whole true e d p q = absurd p
whole false true true p q = absurd (q tt)
whole false true false p q = refl
whole false false d p q = refl

-- x is at most y and y at most z. Where z and x are level, y is level with both, and one over each of them is in order
-- too.
pub precedes_not_trans : (x y z : Float) → Numeric x → Numeric y → Numeric z → precedes y x ≡ false → precedes z y ≡ false → precedes z x ≡ false
unfolding precedes
precedes_not_trans x y z hx hy hz p q =
    let over : Float → Float = div binary64 one in
    let held : (w : Float) → T (fits binary64 (div binary64 one w)) = div-fits binary64 one in
    let p' = parts (lt y x) (eq y x) (lt (over y) (over x)) p in
    let q' = parts (lt z y) (eq z y) (lt (over z) (over y)) q in
    let xy : T (le x y) = not_lt→le y x hy.1 hx.1 p'.0 in
    let yz : T (le y z) = not_lt→le z y hz.1 hy.1 q'.0 in
    whole (lt z x) (eq z x) (lt (over z) (over x)) (le→not_lt x z (float_le_trans binary64 x y z hx.0 hy.0 hz.0 xy yz))
    (λ e.
    let zx : T (le z x) = eq→le z x e in
    let yx : T (eq y x) = le_antisym y x (float_le_trans binary64 y z x hy.0 hz.0 hx.0 yz zx) xy in
    let zy : T (eq z y) = le_antisym z y (float_le_trans binary64 z x y hz.0 hx.0 hy.0 zx xy) yz in
    le→not_lt (over x) (over z)
    (float_le_trans binary64 (over x) (over y) (over z) (held x) (held y) (held z)
    (not_lt→le (over y) (over x) (one_over_number y hy.1) (one_over_number x hx.1) (p'.1 yx))
    (not_lt→le (over z) (over y) (one_over_number z hz.1) (one_over_number y hy.1) (q'.1 zy))))

-- ---- level

-- neither precedes the other: of two zeros the signs are the same
zeros_same : (s t : Bool) → precedes (fin s 0 (pos 0)) (fin t 0 (pos 0)) ≡ false → precedes (fin t 0 (pos 0)) (fin s 0 (pos 0)) ≡ false → fin s 0 (pos 0) ≡ fin t 0 (pos 0)
unfolding precedes lt eq div of_bits
zeros_same true true p q = refl
zeros_same false false p q = refl
zeros_same true false p q = absurd (true≢false p)
zeros_same false true p q = absurd (true≢false q)

not_less_of : (a b : Float) → precedes a b ≡ false → T (not (lt a b))
unfolding precedes
not_less_of a b e = (parts (lt a b) (eq a b) (lt (div binary64 one a) (div binary64 one b)) e).0

zero_fits : T (fits binary64 plus_zero)
unfolding fits of_bits
zero_fits = tt

pub level_same : (x y : Float) → Numeric x → Numeric y → precedes x y ≡ false → precedes y x ≡ false → x ≡ y
level_same x y hx hy p q = by (eq x plus_zero) refl
  where
    xy : T (le x y)
    xy = not_lt→le y x hy.1 hx.1 (not_less_of y x q)

    yx : T (le y x)
    yx = not_lt→le x y hx.1 hy.1 (not_less_of x y p)

    by : (b : Bool) → eq x plus_zero ≡ b → x ≡ y
    by false n = sym (same_nonzero binary64 x y hx.0 hy.0 (subst (λ (b : Bool). T (not b)) (sym n) tt) xy yx)
    by true z =
        let x0 : T (eq x plus_zero) = subst T (sym z) tt in
        let y0 : T (eq y plus_zero) =
        le_antisym y plus_zero
        (float_le_trans binary64 y x plus_zero hy.0 hx.0 zero_fits yx (eq→le x plus_zero x0))
        (float_le_trans binary64 plus_zero x y zero_fits hx.0 hy.0 (eq→le plus_zero x (eq_sym x plus_zero x0)) xy) in
        let ex : x ≡ fin (sign x) 0 (pos 0) = zero_of_eq binary64 x hx.0 x0 in
        let ey : y ≡ fin (sign y) 0 (pos 0) = zero_of_eq binary64 y hy.0 y0 in
        ex
        ∙ zeros_same (sign x) (sign y)
        (sym (λ i. precedes (ex i) (ey i)) ∙ p)
        (sym (λ i. precedes (ey i) (ex i)) ∙ q)
        ∙ sym ey

-- ---- by the library's order of a number and of one over it

abbrev pub key_order : Float → Float → Ordering
key_order a b = ordering_then (nan_last_cmp a b) (nan_last_cmp (div binary64 one a) (div binary64 one b))

pub not_less : (a b : Float) → Numeric a → Numeric b → is_lt (key_order b a) ≡ false → precedes b a ≡ false
unfolding precedes
not_less a b ha hb e =
    by (lt b a) (lt a b) (eq b a) (lt (div binary64 one b) (div binary64 one a)) (lt (div binary64 one a) (div binary64 one b)) (eq→not_lt b a)
    (rw (number a ha.1, number b hb.1, number (div binary64 one a) (one_over_number a ha.1), number (div binary64 one b) (one_over_number b hb.1)) at e)
  where
    number : (x : Float) → T (not (is_nan x)) → is_nan x ≡ false
    number x t = by_test (is_nan x) t
      where
        by_test : (b : Bool) → T (not b) → b ≡ false
        by_test true t = absurd t
        by_test false t = refl

    by : (l g e d d' : Bool) → (T e → T (not g)) → is_lt (ordering_then (cond l Less (cond g Greater Equal)) (cond d Less (cond d' Greater Equal))) ≡ false → (l || (e && d)) ≡ false
    by true g e d d' n t = t
    by false true true d d' n t = absurd (n tt)
    by false true false d d' n t = refl
    by false false e true d' n t = absurd (true≢false t)
    by false false true false d' n t = refl
    by false false false false d' n t = refl
