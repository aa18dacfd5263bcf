-- Values held against a limit. Whether the least of many is not above the limit is told by one after the other: it is
-- where one of them is, since a NaN is neither the least nor below a limit.
-- And a hypotenuse of three parts is told to be above it by the key of two: keys grow with the first part, so where
-- that key reaches k, and the hypotenuse of k alone is above the limit, no third part brings it down.
use Rattle.std.proofs.Common.{◌≡◌, Bool, true, false, cond, not, ◌||◌, T, pos, sym, refl, ap, ◌∙◌, subst, T_not}
use lib.Dec.{not_T}
use lib.Ieee.{Float, nan, inf, fin, Format, binary64, of_bits, add, mul, fits, is_nan, lt, le}
use Rattle.leaves.specs.Bounds.{smaller_of}
use Rattle.leaves.specs.Constants as constants
use Rattle.leaves.specs.Hypot.{key_of, hypot_of_key, hypot_of, hypot3_of}
use Rattle.leaves.specs.Root.{root_in, root_of}
use Rattle.leaves.specs.Keys.{Key}
use Rattle.leaves.proofs.Hypotenuses.{key_is, hypot_is, hypot_of_key_is, hypot_mono, hypot_by_key, hypot3_by_key, inf_key, hypot_of_inf}
use Rattle.leaves.proofs.Monotone.{add_le, square_mono}
use Rattle.leaves.proofs.Patterns.{add_number}
use Rattle.std.proofs.lemmas.Float.{lt_of_lt_of_le}
use Rattle.leaves.proofs.Order.{le_left, le_lt, le→not_lt, lt_left, lt_trans, not_lt→le}
use Rattle.leaves.proofs.RootOrder.{unsigned_not_negative}
use Rattle.leaves.proofs.Scaling.{mul_by_zero}
use Rattle.leaves.proofs.Signs.{square_positive}
use Rattle.leaves.proofs.Values.{sign}

-- ---- a least

held_second : (a b : Bool) → (T b → T a) → a ≡ (b || a)
held_second true true h = refl
held_second true false h = refl
held_second false true h = absurd (h tt)
held_second false false h = refl

held_first : (a b : Bool) → (T b → T a) → a ≡ (a || b)
held_first true b h = refl
held_first false true h = absurd (h tt)
held_first false false h = refl

-- x is the less of the two
by_second : (limit d x : Float) → T (not (is_nan limit)) → T (lt x d) → not (lt limit x) ≡ (not (lt limit d) || le x limit)
by_second limit d x n l =
    subst (λ (b : Bool). not (lt limit x) ≡ (not (lt limit d) || b)) (sym (le_lt x limit (lt_left x d l) n))
    (held_second (not (lt limit x)) (not (lt limit d)) (λ t. not_T (lt limit x) (λ u. T_not (lt limit d) t (lt_trans limit x d u l))))

-- it is not
by_first : (limit d x : Float) → T (not (is_nan d)) → T (not (lt x d)) → not (lt limit d) ≡ (not (lt limit d) || le x limit)
by_first limit d x n l =
    held_first (not (lt limit d)) (le x limit)
    (λ t. not_T (lt limit d) (λ u. T_not (lt limit x) (le→not_lt x limit t) (lt_of_lt_of_le limit d x u (not_lt→le x d (le_left x limit t) n l))))

-- the less of d and x is not above the limit where d or x is not: a NaN is passed over, and no value is above a NaN
pub least_limit : (f : Format) (limit d x : Float) → T (fits f limit) → T (fits f d) → T (fits f x) → T (not (is_nan d)) → not (lt limit (smaller_of d x)) ≡ (not (lt limit d) || le x limit)
unfolding smaller_of
least_limit f limit d x L D X n = go (lt x d) (second limit) (by_first limit d x n)
  where
    second : (limit : Float) → T (lt x d) → not (lt limit x) ≡ (not (lt limit d) || le x limit)
    second nan t = unfold lt in refl
    second (inf s) t = by_second (inf s) d x (unfold is_nan in tt) t
    second (fin s m e) t = by_second (fin s m e) d x (unfold is_nan in tt) t

    go : (c : Bool) → (T c → not (lt limit x) ≡ (not (lt limit d) || le x limit)) → (T (not c) → not (lt limit d) ≡ (not (lt limit d) || le x limit)) → not (lt limit (cond c x d)) ≡ (not (lt limit d) || le x limit)
    go true h k = h tt
    go false h k = k tt

-- ---- keys grow with the first part, and are least where the second is 0

sum_number : (f : Format) (x y : Float) → T (not (is_nan (add f x y))) → T (not (is_nan y))
unfolding add is_nan
sum_number f nan y n = absurd n
sum_number f (inf s) nan n = n
sum_number f (inf s) (inf t) n = tt
sum_number f (inf s) (fin t k d) n = tt
sum_number f (fin s m e) nan n = n
sum_number f (fin s m e) (inf t) n = tt
sum_number f (fin s m e) (fin t k d) n = tt

zero_square : (f : Format) → mul f constants.plus_zero constants.plus_zero ≡ fin false 0 (pos 0)
unfolding of_bits
zero_square f = mul_by_zero f false 0 (pos 0)

pub key_mono : (a b c : Float) → sign a ≡ false → sign b ≡ false → T (le a b) → T (not (is_nan (key_of b c))) → T (le (key_of a constants.plus_zero) (key_of b c))
unfolding key_of is_nan
key_mono a b c p q l n =
    let none : Float = fin false 0 (pos 0) in
    let firsts = square_mono binary64 a b p q l in
    let second = sum_number binary64 (mul binary64 b b) (mul binary64 c c) n in
    let seconds = not_lt→le (mul binary64 c c) none second tt (not_T (lt (mul binary64 c c) none) (unsigned_not_negative (mul binary64 c c) (square_positive binary64 c))) in
    subst (λ (z : Float). T (le (add binary64 (mul binary64 a a) z) (add binary64 (mul binary64 b b) (mul binary64 c c)))) (sym (zero_square binary64))
    (add_le binary64 (mul binary64 a a) (mul binary64 b b) none (mul binary64 c c) (add_number binary64 (mul binary64 a a) none (le_left (mul binary64 a a) (mul binary64 b b) firsts) tt) n firsts seconds)

-- ---- the hypotenuse of three

key_number : (k : Float) → T (not (is_nan (hypot_of_key k))) → T (not (is_nan k))
unfolding hypot_of_key root_of root_in is_nan
key_number nan n = n
key_number (inf s) n = tt
key_number (fin s m e) n = tt

-- the hypotenuse of k alone is above the limit
pub record Above (limit k : Float) : Type 0 where
  pub held : T (fits binary64 limit)
  pub key : Key k
  pub longer : T (lt limit (hypot_of (hypot_of_key k) constants.plus_zero))

-- so where the key of a and b reaches k, their hypotenuse with any c is
pub far_hypot : (limit k : Float) → Above limit k → (a b c : Float) → T (le k (key_of a b)) → T (le (hypot3_of a b c) limit) → ⊥
far_hypot limit k h a b c reaches near =
    let outer = key_of (hypot_of a b) c in
    let alone = key_of (hypot_of_key k) constants.plus_zero in
    let short : T (le (hypot_of_key outer) limit) = subst (λ (d : Float). T (le d limit)) (hypot3_by_key a b c) near in
    let first : T (le (hypot_of_key k) (hypot_of a b)) = subst (λ (d : Float). T (le (hypot_of_key k) d)) (sym (hypot_by_key a b)) (hypot_mono k (key_of a b) h.key (key_is a b) reaches) in
    let keys = key_mono (hypot_of_key k) (hypot_of a b) c (hypot_of_key_is k h.key).plain (hypot_is a b).plain first (key_number outer (le_left (hypot_of_key outer) limit short)) in
    let hypots = hypot_mono alone outer (key_is (hypot_of_key k) constants.plus_zero) (key_is (hypot_of a b) c) keys in
    let longer = subst (λ (d : Float). T (lt limit d)) (hypot_by_key (hypot_of_key k) constants.plus_zero) h.longer in
    T_not (lt limit (hypot_of_key outer)) (le→not_lt (hypot_of_key outer) limit short)
    (lt_of_lt_of_le limit (hypot_of_key alone) (hypot_of_key outer) longer hypots)

inf_alone : key_of (inf false) constants.plus_zero ≡ inf false
unfolding key_of mul add
inf_alone = ap (λ (z : Float). add binary64 (inf false) z) (zero_square binary64)

-- infinity's is above every limit below it
pub inf_above : (limit : Float) → T (fits binary64 limit) → T (lt limit (inf false)) → Above limit (inf false)
inf_above limit h l = record { held = h; key = inf_key; longer = subst (λ (d : Float). T (lt limit d)) (sym alone) l }
  where
    alone : hypot_of (hypot_of_key (inf false)) constants.plus_zero ≡ inf false
    alone = ap (λ (d : Float). hypot_of d constants.plus_zero) hypot_of_inf ∙ hypot_by_key (inf false) constants.plus_zero ∙ ap hypot_of_key inf_alone ∙ hypot_of_inf
