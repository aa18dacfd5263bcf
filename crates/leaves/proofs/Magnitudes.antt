-- How large a value can be. `Most n x` says that x is finite, and its magnitude no more than the whole number n.
-- Where the format holds every whole number up to n, a fraction of at most n rounds to a value of at most n. So the
-- exact sum, product or quotient of two bounds is a bound of the rounded one.
use Rattle.std.proofs.Common.{◌≡◌, ℕ, ◌+◌, ◌-◌, ◌*◌, ◌^◌, ◌<◌, ◌≤◌, Bool, true, false, cond, not, ◌&&◌, T, ltb, sym, ap, ◌∙◌, subst, le_trans, le_of_eq, mul-le-mul_right, zero-lt-suc, mul_assoc, mul_comm, add-mul, mul-pos, mul-one, mul_right_comm, le_of_mul-le-mul_right, arith}
use mathlib.Core.Bool.{beq}
use lib.Ieee.{Float, nan, inf, fin, Format, prec, up, down, round, neg, sum, add, sub, mul, div, lt, le}
use lib.Ieee.Back.{round_whole}
use lib.Ieee.Exact.{HasValue}
use lib.Ieee.Fits.{down_pos}
use lib.Ieee.Positive.{positive, num, den, den_pos}
use lib.Ieee.Scale.{finite}
use Rattle.leaves.specs.Bounds.{smaller_of, larger_of}
use Rattle.leaves.proofs.Fractions.{Ordered, le→ordered}
use Rattle.leaves.proofs.Monotone.{round_ordered}
use Rattle.leaves.proofs.Order.{within_finite}
use Rattle.leaves.proofs.Scaling.{div_of_finite, mul_of_finite, size_above}
use Rattle.leaves.proofs.Signs.{neg_round}

abbrev pub Most : ℕ → Float → Type 0
Most n nan = ⊥
Most n (inf s) = ⊥
Most n (fin s m e) = m * up e ≤ n * down e

pub most_finite : (n : ℕ) (x : Float) → Most n x → T (finite x)
most_finite n nan h = absurd h
most_finite n (inf s) h = absurd h
most_finite n (fin s m e) h = tt

pub most_more : (n k : ℕ) (x : Float) → n ≤ k → Most n x → Most k x
most_more n k nan l h = h
most_more n k (inf s) l h = h
most_more n k (fin s m e) l h = le_trans h (mul-le-mul_right (down e) l)

pub most_either : (n : ℕ) (c : Bool) (x y : Float) → Most n x → Most n y → Most n (cond c x y)
most_either n true x y p q = p
most_either n false x y p q = q

neg_most : (n : ℕ) (x : Float) → Most n x → Most n (neg x)
unfolding neg
neg_most n nan h = h
neg_most n (inf s) h = h
neg_most n (fin s m e) h = h

-- ---- a value between a bound and its opposite

-- what ±q and its opposite enclose is no larger than q
sizes : (s t : Bool) (p q : ℕ) → Ordered s p t q → Ordered (not t) q s p → p ≤ q
sizes false false p q h k = h
sizes false true p q h k = omega arith
sizes true false p q h k = k
sizes true true p q h k = omega arith

-- a / c ≤ b / d ≤ n
under : (a c b d n : ℕ) → 0 < d → a * d ≤ b * c → b ≤ n * d → a ≤ n * c
under a c b d n D h k = le_of_mul-le-mul_right (le_trans h (le_trans (mul-le-mul_right c k) (le_of_eq (mul_right_comm n d c)))) D

pub within_most : (n : ℕ) (limit x : Float) → Most n limit → T (le (neg limit) x) → T (le x limit) → Most n x
within_most n limit nan h p q = absurd (within_finite limit nan (most_finite n limit h) p q)
within_most n limit (inf s) h p q = absurd (within_finite limit (inf s) (most_finite n limit h) p q)
within_most n nan (fin s m e) h p q = absurd h
within_most n (inf t) (fin s m e) h p q = absurd h
within_most n (fin t k d) (fin s m e) h p q =
    under (m * up e) (down e) (k * up d) (down d) n (down_pos d)
    (sizes s t (m * up e * down d) (k * up d * down e) (le→ordered s m e t k d q) (le→ordered (not t) k d s m e (unfold neg in p)))
    h

-- ---- a fraction, rounded

whole_most : (n : ℕ) (x : Float) → HasValue x false n 1 → Most n x
whole_most n nan h = h
whole_most n (inf s) h = h
whole_most n (fin s m e) h = le_of_eq (sym (mul-one (m * up e)) ∙ h.1)

pub round_most : (f : Format) (s : Bool) (a c n : ℕ) → 0 < c → n ≤ 2 ^ prec f → a ≤ n * c → Most n (round f s a c)
round_most f s a c n C fit h =
    let limit = round f false n 1 in
    within_most n limit (round f s a c) (whole_most n limit (round_whole f false n fit))
    (subst (λ (x : Float). T (le x (round f s a c))) (neg_round f false n 1) (round_ordered f true s n 1 a c (zero-lt-suc 0) C (below s)))
    (round_ordered f s false a c n 1 C (zero-lt-suc 0) (above s))
  where
    above : (s : Bool) → Ordered s (a * 1) false (n * c)
    above false = omega arith
    above true = tt

    below : (s : Bool) → Ordered true (n * c) s (a * 1)
    below false = tt
    below true = omega arith

-- ---- sums

sum_most : (f : Format) (s : Bool) (a : ℕ) (t : Bool) (b c n : ℕ) → 0 < c → n ≤ 2 ^ prec f → a + b ≤ n * c → Most n (sum f s a t b c)
unfolding sum
sum_most f s a t b c n C fit h =
    most_either n (beq s t) (round f s (a + b) c) (cond (ltb a b) (round f t (b - a) c) (round f (s && ltb b a) (a - b) c)) (round_most f s (a + b) c n C fit h)
    (most_either n (ltb a b) (round f t (b - a) c) (round f (s && ltb b a) (a - b) c) (round_most f t (b - a) c n C fit (omega arith)) (round_most f (s && ltb b a) (a - b) c n C fit (omega arith)))

pub add_most : (f : Format) (x y : Float) (n k : ℕ) → n + k ≤ 2 ^ prec f → Most n x → Most k y → Most (n + k) (add f x y)
unfolding add
add_most f nan y n k fit h g = h
add_most f (inf s) y n k fit h g = absurd h
add_most f (fin s m e) nan n k fit h g = g
add_most f (fin s m e) (inf t) n k fit h g = absurd g
add_most f (fin s m e) (fin t l d) n k fit h g =
    let c = down e * down d in
    sum_most f s (m * up e * down d) t (l * up d * down e) c (n + k) (mul-pos (down_pos e) (down_pos d)) fit
    (parts (m * up e * down d) (l * up d * down e) (n * c) (k * c) (n * down e * down d) (k * down d * down e)
    (mul-le-mul_right (down d) h) (mul-le-mul_right (down e) g) (mul_assoc n (down e) (down d)) (mul_assoc k (down d) (down e) ∙ ap (λ (x : ℕ). k * x) (mul_comm (down d) (down e))) (add-mul n k c))
  where
    parts : {z : ℕ} (a b p q i j : ℕ) → a ≤ i → b ≤ j → i ≡ p → j ≡ q → z ≡ p + q → a + b ≤ z
    parts a b p q i j u v w x y = omega arith

pub sub_most : (f : Format) (x y : Float) (n k : ℕ) → n + k ≤ 2 ^ prec f → Most n x → Most k y → Most (n + k) (sub f x y)
unfolding sub
sub_most f x y n k fit h g = add_most f x (neg y) n k fit h (neg_most k y g)

-- ---- products with, and quotients by, a value above zero

-- a / c times i / j
scaled : (a c i j n k : ℕ) → n * i ≤ k * j → a ≤ n * c → a * i ≤ k * (c * j)
scaled a c i j n k l h = le_trans (mul-le-mul_right i h) (le_trans (le_of_eq (mul_right_comm n c i)) (le_trans (mul-le-mul_right c l) (le_of_eq (mul_assoc k j c ∙ ap (λ (x : ℕ). k * x) (mul_comm j c)))))

pub mul_most : (f : Format) (x p : Float) (n k : ℕ) → T (positive p) → k ≤ 2 ^ prec f → n * num p ≤ k * den p → Most n x → Most k (mul f x p)
mul_most f nan p n k P fit l h = absurd h
mul_most f (inf s) p n k P fit l h = absurd h
mul_most f (fin s m e) p n k P fit l h =
    subst (Most k) (sym (mul_of_finite f p P s m e))
    (round_most f s (m * up e * num p) (down e * den p) k (mul-pos (down_pos e) (den_pos p)) fit (scaled (m * up e) (down e) (num p) (den p) n k l h))

pub div_most : (f : Format) (x p : Float) (n k : ℕ) → T (positive p) → k ≤ 2 ^ prec f → n * den p ≤ k * num p → Most n x → Most k (div f x p)
div_most f nan p n k P fit l h = absurd h
div_most f (inf s) p n k P fit l h = absurd h
div_most f (fin s m e) p n k P fit l h =
    subst (Most k) (sym (div_of_finite f p P s m e))
    (round_most f s (m * up e * den p) (down e * num p) k (mul-pos (down_pos e) (size_above p P)) fit (scaled (m * up e) (down e) (den p) (num p) n k l h))

-- ---- the first step of a least and of a greatest

pub smaller_first : (n : ℕ) (x : Float) → Most n x → Most n (smaller_of (inf false) x)
unfolding smaller_of lt
smaller_first n nan h = absurd h
smaller_first n (inf s) h = absurd h
smaller_first n (fin s m e) h = h

pub larger_first : (n : ℕ) (x : Float) → Most n x → Most n (larger_of (inf true) x)
unfolding larger_of lt
larger_first n nan h = absurd h
larger_first n (inf s) h = absurd h
larger_first n (fin s m e) h = h
