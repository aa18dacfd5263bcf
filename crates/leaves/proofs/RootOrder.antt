-- The root keeps the order, so the least of two roots is the root of the lesser, and the greatest that of the greater;
-- it is -0 only of -0 and never negative. Here "no sign" is said of a NaN too.
-- Assumes nothing.
use Rattle.std.proofs.Common.{◌≡◌, ℕ, zero, suc, ◌+◌, ◌-◌, ◌*◌, ◌^◌, ◌<◌, ◌≤◌, Bool, true, false, cond, not, T, ℤ, pos, sym, refl, ◌∙◌, subst, true≢false, zero-le, le_trans, le_of_eq, lt_of_lt_of_le, lt_irrefl, mul-le-mul_right, zero-lt-suc, zero-mul, arith, lt→ltb, T_not, pow_pos}
use lib.Arith.{add-le_cancel_left}
use lib.Ieee.{Float, nan, inf, fin, Format, low, up, down, lt, le, fits, is_nan, round}
use lib.Ieee.Bits.{is_true}
use lib.Ieee.Exact.{HasValue}
use lib.Ieee.Order.{round_mono, le_of_values}
use lib.Ieee.Positive.{positive}
use lib.Ieee.Scale.{overflow}
use Rattle.leaves.specs.Bounds.{smaller_of, larger_of}
use Rattle.leaves.specs.Root.{rounded, root_in}
use Rattle.leaves.proofs.Values.{units_in, sign, zero_value, zero_units, units_zero, units_small}
use Rattle.leaves.proofs.WholeRoots.{halves, halves_mono}
use Rattle.leaves.proofs.Rounding.{rounded_is}
use Rattle.leaves.proofs.RootCases.{none_below}
use Rattle.leaves.proofs.Roots.{root_units, root_value, root_held, root_is_rounded, some_units}
use Rattle.leaves.proofs.Signs.{round_sign, clear_of_sign}
use Rattle.leaves.proofs.Order.{lt_left, lt_right, le_left, le_right, le→place, le→not_lt, lt→le, not_lt→le, same}

-- ---- the order

rounded_mono : (f : Format) (a b : ℕ) → a ≤ b → T (le (rounded f a) (rounded f b))
rounded_mono f a b h =
    let c = 2 ^ (low f + 2) in
    subst (λ (z : Float). T (le z (rounded f b))) (sym (rounded_is f a))
    (subst (λ (z : Float). T (le (round f false (halves a) c) z)) (sym (rounded_is f b)) (round_mono f (halves a) c (halves b) c (pow_pos (low f + 2)) (pow_pos (low f + 2)) (mul-le-mul_right c (halves_mono a b h))))

finite_le_inf : (x : Float) (a c : ℕ) → HasValue x false a c → T (le x (inf false))
unfolding le
finite_le_inf nan a c v = absurd v
finite_le_inf (inf s) a c v = absurd v
finite_le_inf (fin s m e) a c v = tt

-- a zero is its own root
root_of_zero : (f : Format) (s : Bool) (m : ℕ) (e : ℤ) → T (fits f (fin s m e)) → units_in f (fin s m e) ≡ 0 → root_in f (fin s m e) ≡ fin s m e
root_of_zero f s m e p u = subst (λ (z : Float). root_in f z ≡ z) (sym (units_zero f s m e p u)) (plain s)
  where
    plain : (s : Bool) → root_in f (fin s zero (pos 0)) ≡ fin s zero (pos 0)
    plain true = unfold root_in in refl
    plain false = unfold root_in in refl

some : (n : ℕ) (d : ℤ) → T (positive (fin false (suc n) d))
some n d = lt→ltb 0 (suc n) (zero-lt-suc n)

-- the root of a value without a sign is finite and has none
root_units_lem : (f : Format) (n : ℕ) (d : ℤ) → T (fits f (fin false n d)) → (k : ℕ) × HasValue (root_in f (fin false n d)) false k (2 ^ low f)
root_units_lem f zero d q = (0, subst (λ (z : Float). HasValue z false 0 (2 ^ low f)) (sym (root_of_zero f false zero d q (zero_units f false d))) (zero_value f false d))
root_units_lem f (suc n) d q = (root_units f (fin false (suc n) d), root_value f (fin false (suc n) d) q (some n d))

root_mono_unsigned : (f : Format) (m n : ℕ) (e d : ℤ) → T (fits f (fin false m e)) → T (fits f (fin false n d)) → units_in f (fin false m e) ≤ units_in f (fin false n d) → T (le (root_in f (fin false m e)) (root_in f (fin false n d)))
root_mono_unsigned f zero n e d p q u =
    let k = root_units_lem f n d q in
    subst (λ (z : Float). T (le z (root_in f (fin false n d)))) (sym (root_of_zero f false zero e p (zero_units f false e)))
    (le_of_values (fin false zero e) (root_in f (fin false n d)) 0 (2 ^ low f) k.0 (2 ^ low f) (pow_pos (low f)) (pow_pos (low f)) (zero_value f false e) k.1 (le_trans (le_of_eq (zero-mul (2 ^ low f))) zero-le))
root_mono_unsigned f (suc m) zero e d p q u = absurd (lt_irrefl 0 (lt_of_lt_of_le (some_units f (fin false (suc m) e) p (some m e)) (le_trans u (le_of_eq (zero_units f false d)))))
root_mono_unsigned f (suc m) (suc n) e d p q u =
    let x = fin false (suc m) e in
    let y = fin false (suc n) d in
    subst (λ (z : Float). T (le z (root_in f y))) (sym (root_is_rounded f x p (some m e)))
    (subst (λ (z : Float). T (le (rounded f (units_in f x * 2 ^ (low f + 2))) z)) (sym (root_is_rounded f y q (some n d))) (rounded_mono f (units_in f x * 2 ^ (low f + 2)) (units_in f y * 2 ^ (low f + 2)) (mul-le-mul_right (2 ^ (low f + 2)) u)))

both_none : (o a b : ℕ) → b < o → o + a ≤ o - b → (a ≡ 0) × (b ≡ 0)
both_none o a b l h = (omega arith, omega arith)

pub root_mono : (f : Format) (x y : Float) → T (fits f x) → T (fits f y) → sign x ≡ false → T (le x y) → T (le (root_in f x) (root_in f y))
unfolding le
root_mono f nan y p q s h = absurd h
root_mono f (inf true) y p q s h = absurd (true≢false s)
root_mono f (inf false) nan p q s h = absurd h
root_mono f (inf false) (inf true) p q s h = absurd h
root_mono f (inf false) (inf false) p q s h = unfold root_in in tt
root_mono f (inf false) (fin t n d) p q s h = absurd h
root_mono f (fin true m e) y p q s h = absurd (true≢false s)
root_mono f (fin false m e) nan p q s h = absurd h
root_mono f (fin false m e) (inf true) p q s h = absurd h
root_mono f (fin false m e) (inf false) p q s h = let k = root_units_lem f m e p in unfold root_in in finite_le_inf (root_in f (fin false m e)) k.0 (2 ^ low f) k.1
root_mono f (fin false m e) (fin true n d) p q s h =
    let z = both_none (overflow f) (units_in f (fin false m e)) (units_in f (fin true n d)) (units_small f (fin true n d) q) (le→place f (fin false m e) (fin true n d) p q h) in
    subst (λ (w : Float). T (le w (root_in f (fin true n d)))) (sym (root_of_zero f false m e p z.0))
    (subst (λ (w : Float). T (le (fin false m e) w)) (sym (root_of_zero f true n d q z.1)) h)
root_mono f (fin false m e) (fin false n d) p q s h =
    root_mono_unsigned f m n e d p q (add-le_cancel_left (overflow f) (le→place f (fin false m e) (fin false n d) p q h))

-- ---- the sign

-- the root of a value without a sign, or of a NaN, has none
pub root_unsigned : (f : Format) (x : Float) → sign x ≡ false → sign (root_in f x) ≡ false
unfolding root_in
root_unsigned f nan s = refl
root_unsigned f (inf true) s = refl
root_unsigned f (inf false) s = refl
root_unsigned f (fin true zero e) s = s
root_unsigned f (fin true (suc m) e) s = refl
root_unsigned f (fin false zero e) s = refl
root_unsigned f (fin false (suc m) e) s = unfold rounded in round_sign f false _ _

-- so a root of a value without a sign is not less than zero
pub unsigned_not_negative : (x : Float) → sign x ≡ false → T (lt x (fin false zero (pos 0))) → ⊥
unfolding lt
unsigned_not_negative nan s h = h
unsigned_not_negative (inf t) s h = true≢false (sym (is_true t h) ∙ s)
unsigned_not_negative (fin true m e) s h = true≢false s
unsigned_not_negative (fin false m e) s h = none_below (m * up e * 1) (down e) h

-- ---- two roots of values without a sign

number_of_root : (f : Format) (x : Float) → T (not (is_nan (root_in f x))) → T (not (is_nan x))
unfolding root_in is_nan
number_of_root f nan h = h
number_of_root f (inf s) h = tt
number_of_root f (fin s m e) h = tt

-- c picks the argument and d the root: they agree, or the roots are the same
picked : (f : Format) (a b : Float) (c d : Bool) → (T (not c) → T d → ⊥) → (T c → T (not d) → root_in f a ≡ root_in f b) → cond d (root_in f b) (root_in f a) ≡ root_in f (cond c b a)
picked f a b true true h k = refl
picked f a b true false h k = k tt tt
picked f a b false true h k = absurd (h tt tt)
picked f a b false false h k = refl

module _ (f : Format) (a b : Float) (p : T (fits f a)) (q : T (fits f b)) (s : sign a ≡ false) (t : sign b ≡ false) where
  not_less_roots : T (not (lt b a)) → T (lt (root_in f b) (root_in f a)) → ⊥
  not_less_roots n l =
      T_not (lt (root_in f b) (root_in f a))
      (le→not_lt (root_in f a) (root_in f b) (root_mono f a b p q s (not_lt→le b a (number_of_root f b (lt_left (root_in f b) (root_in f a) l)) (number_of_root f a (lt_right (root_in f b) (root_in f a) l)) n)))
      l

  same_roots : T (lt b a) → T (not (lt (root_in f b) (root_in f a))) → root_in f a ≡ root_in f b
  same_roots l n =
      let h = root_mono f b a q p t (lt→le b a l) in
      same f (root_in f a) (root_in f b) (root_held f a p) (root_held f b q) (le_right (root_in f b) (root_in f a) h) (le_left (root_in f b) (root_in f a) h)
      (clear_of_sign (root_in f a) (root_unsigned f a s)) (clear_of_sign (root_in f b) (root_unsigned f b t)) (le→not_lt (root_in f b) (root_in f a) h) n

  pub smaller_root : smaller_of (root_in f a) (root_in f b) ≡ root_in f (smaller_of a b)
  unfolding smaller_of
  smaller_root = picked f a b (lt b a) (lt (root_in f b) (root_in f a)) not_less_roots same_roots

-- the same two laws with a and b in each other's place
pub larger_root : (f : Format) (a b : Float) → T (fits f a) → T (fits f b) → sign a ≡ false → sign b ≡ false → larger_of (root_in f a) (root_in f b) ≡ root_in f (larger_of a b)
unfolding larger_of
larger_root f a b p q s t = picked f a b (lt a b) (lt (root_in f a) (root_in f b)) (not_less_roots f b a q p t s) (λ l n. sym (same_roots f b a q p t s l n))
