-- Signed fractions. Two finite values are in order exactly where their numerators over a common denominator are, and a
-- number above 0 may be multiplied into both.
-- What ±a adds and what it takes off make of that order, and of a sum, an order and an equation between natural
-- numbers: so sums of parts in order are in order.
use Rattle.std.proofs.Common.{◌≡◌, ℕ, ◌+◌, ◌*◌, ◌<◌, ◌≤◌, Bool, true, false, not, T, ℤ, sym, refl, ap, ◌∙◌, inl, inr, mul-le-mul_right, add-mul, eq-zero-or-pos, mul-pos, zero-mul, arith, nltb→le}
use lib.Arith.{le→nltb}
use lib.Ieee.{Float, nan, inf, fin, up, down, neg, is_nan, lt, le}
use Rattle.leaves.proofs.Order.{le→not_lt, not_lt→le}

-- ---- the order

-- ±p ≤ ±q
abbrev pub Ordered : Bool → ℕ → Bool → ℕ → Type 0
Ordered false p false q = p ≤ q
Ordered false p true q = q + p ≤ 0
Ordered true p false q = Unit {0}
Ordered true p true q = q ≤ p

pub le→ordered : (s : Bool) (m : ℕ) (e : ℤ) (t : Bool) (n : ℕ) (d : ℤ) → T (le (fin s m e) (fin t n d)) → Ordered s (m * up e * down d) t (n * up d * down e)
le→ordered s m e t n d l = go s t (le→not_lt (fin s m e) (fin t n d) l)
  where
    go : (s t : Bool) → T (not (lt (fin t n d) (fin s m e))) → Ordered s (m * up e * down d) t (n * up d * down e)
    go false false l = unfold lt in nltb→le (n * up d * down e) (m * up e * down d) l
    go false true l = unfold lt in nltb→le 0 (n * up d * down e + m * up e * down d) l
    go true false l = tt
    go true true l = unfold lt in nltb→le (m * up e * down d) (n * up d * down e) l

pub ordered→le : (s : Bool) (m : ℕ) (e : ℤ) (t : Bool) (n : ℕ) (d : ℤ) → Ordered s (m * up e * down d) t (n * up d * down e) → T (le (fin s m e) (fin t n d))
unfolding is_nan
ordered→le s m e t n d l = not_lt→le (fin t n d) (fin s m e) tt tt (go s t l)
  where
    go : (s t : Bool) → Ordered s (m * up e * down d) t (n * up d * down e) → T (not (lt (fin t n d) (fin s m e)))
    go false false l = unfold lt in le→nltb (n * up d * down e) (m * up e * down d) l
    go false true l = unfold lt in le→nltb 0 (n * up d * down e + m * up e * down d) l
    go true false l = unfold lt in tt
    go true true l = unfold lt in le→nltb (m * up e * down d) (n * up d * down e) l

pub ordered_scaled : (s t : Bool) (p q k : ℕ) → Ordered s p t q → Ordered s (p * k) t (q * k)
ordered_scaled false false p q k h = mul-le-mul_right k h
ordered_scaled false true p q k h = omega (arith, add-mul q p k, mul-le-mul_right k h, zero-mul k)
ordered_scaled true false p q k h = tt
ordered_scaled true true p q k h = mul-le-mul_right k h

pub none_left : (a d : ℕ) → 0 < d → a * d ≤ 0 → a ≡ 0
none_left a d D h = elim (eq-zero-or-pos a) [ inl z ↦ z | inr l ↦ omega (arith, mul-pos l D) ]

ordered_neg : (s t : Bool) (p q : ℕ) → Ordered s p t q → Ordered (not t) q (not s) p
ordered_neg false false p q h = h
ordered_neg false true p q h = omega arith
ordered_neg true false p q h = tt
ordered_neg true true p q h = h

-- ---- what ±a adds, and what it takes off

abbrev gain : Bool → ℕ → ℕ
gain false a = a
gain true a = 0

abbrev loss : Bool → ℕ → ℕ
loss false a = 0
loss true a = a

gain_scaled : (s : Bool) (a k : ℕ) → gain s (a * k) ≡ gain s a * k
gain_scaled false a k = refl
gain_scaled true a k = sym (zero-mul k)

loss_scaled : (s : Bool) (a k : ℕ) → loss s (a * k) ≡ loss s a * k
loss_scaled false a k = sym (zero-mul k)
loss_scaled true a k = refl

ordered→sides : (s t : Bool) (p q : ℕ) → Ordered s p t q → gain s p + loss t q ≤ gain t q + loss s p
ordered→sides false false p q h = omega arith
ordered→sides false true p q h = omega arith
ordered→sides true false p q h = omega arith
ordered→sides true true p q h = omega arith

sides→ordered : (s t : Bool) (p q : ℕ) → gain s p + loss t q ≤ gain t q + loss s p → Ordered s p t q
sides→ordered false false p q h = omega arith
sides→ordered false true p q h = omega arith
sides→ordered true false p q h = tt
sides→ordered true true p q h = omega arith

-- ---- sums

-- ±w = ±a + ±b
pub record Sums (r : Bool) (w : ℕ) (s : Bool) (a : ℕ) (t : Bool) (b : ℕ) : Type 0 where
  pub level : gain r w + (loss s a + loss t b) ≡ loss r w + (gain s a + gain t b)

pub sums_scaled : {r s t : Bool} {w a b : ℕ} (k : ℕ) → Sums r w s a t b → Sums r (w * k) s (a * k) t (b * k)
sums_scaled {r} {s} {t} {w} {a} {b} k h = record { level = over (gain r w) (loss s a) (loss t b) (gain_scaled r w k) (loss_scaled s a k) (loss_scaled t b k) ∙ ap (λ (x : ℕ). x * k) h.level ∙ sym (over (loss r w) (gain s a) (gain t b) (loss_scaled r w k) (gain_scaled s a k) (gain_scaled t b k)) }
  where
    over : (x y z : ℕ) {x' y' z' : ℕ} → x' ≡ x * k → y' ≡ y * k → z' ≡ z * k → x' + (y' + z') ≡ (x + (y + z)) * k
    over x y z p q r = omega (arith, add-mul x (y + z) k, add-mul y z k)

pub sums_ordered : {r r' s t u v : Bool} {w w' a b c d : ℕ} → Sums r w s a u c → Sums r' w' t b v d → Ordered s a t b → Ordered u c v d → Ordered r w r' w'
sums_ordered {r} {r'} {s} {t} {u} {v} {w} {w'} {a} {b} {c} {d} i j h k =
    sides→ordered r r' w w'
    (go (gain r w) (loss r w) (gain r' w') (loss r' w') (gain s a) (loss s a) (gain t b) (loss t b) (gain u c) (loss u c) (gain v d) (loss v d) i.level j.level (ordered→sides s t a b h) (ordered→sides u v c d k))
  where
    go : (r⁺ r⁻ q⁺ q⁻ s⁺ s⁻ t⁺ t⁻ u⁺ u⁻ v⁺ v⁻ : ℕ) → r⁺ + (s⁻ + u⁻) ≡ r⁻ + (s⁺ + u⁺) → q⁺ + (t⁻ + v⁻) ≡ q⁻ + (t⁺ + v⁺) → s⁺ + t⁻ ≤ t⁺ + s⁻ → u⁺ + v⁻ ≤ v⁺ + u⁻ → r⁺ + q⁻ ≤ q⁺ + r⁻
    go r⁺ r⁻ q⁺ q⁻ s⁺ s⁻ t⁺ t⁻ u⁺ u⁻ v⁺ v⁻ i j h k = omega arith

-- ---- negation turns the order round

pub neg_mono : (x y : Float) → T (le x y) → T (le (neg y) (neg x))
unfolding neg le
neg_mono nan y l = absurd l
neg_mono (inf s) nan l = absurd l
neg_mono (inf true) (inf true) l = l
neg_mono (inf true) (inf false) l = l
neg_mono (inf false) (inf true) l = l
neg_mono (inf false) (inf false) l = l
neg_mono (inf true) (fin t n d) l = tt
neg_mono (inf false) (fin t n d) l = absurd l
neg_mono (fin s m e) nan l = absurd l
neg_mono (fin s m e) (inf true) l = absurd l
neg_mono (fin s m e) (inf false) l = tt
neg_mono (fin s m e) (fin t n d) l = ordered→le (not t) n d (not s) m e (ordered_neg s t (m * up e * down d) (n * up d * down e) (le→ordered s m e t n d l))
