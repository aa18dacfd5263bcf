-- The root where it is not of a value above zero: a negative value has none, and zeros, which keep their sign, and a
-- NaN are their own. Assumes nothing.
use Rattle.std.proofs.Common.{◌≡◌, ℕ, zero, suc, ◌+◌, ◌*◌, ◌<◌, true, false, not, T, ltb, ℤ, pos, refl, zero-lt-suc, mul-pos, arith, ltb→lt, lt→ltb, T_not}
use lib.Ieee.{Float, nan, inf, fin, Format, lt, up, down}
use lib.Ieee.Fits.{up_pos}
use Rattle.leaves.specs.Root.{root_in}

-- the comparisons with +0 that `lt` makes, on magnitudes
pub zero_not_above : (u d : ℕ) → T (ltb 0 (0 * u * 1 + 0 * 1 * d)) → ⊥
zero_not_above u d h = no (ltb→lt 0 (0 * u * 1 + 0 * 1 * d) h)
  where
    no : 0 < 0 * u * 1 + 0 * 1 * d → ⊥
    no k = omega arith

pub none_below : (a d : ℕ) → T (ltb a (0 * 1 * d)) → ⊥
none_below a d h = no (ltb→lt a (0 * 1 * d) h)
  where
    no : a < 0 * 1 * d → ⊥
    no k = omega arith

some : (m : ℕ) (e : ℤ) → 0 < suc m * up e * 1
some m e = mul-pos (mul-pos (zero-lt-suc m) (up_pos e)) (zero-lt-suc 0)

more : (a d : ℕ) → 0 < a → T (ltb 0 (a + 0 * 1 * d))
more a d h = lt→ltb 0 (a + 0 * 1 * d) (omega arith)

above : (a d : ℕ) → 0 < a → T (ltb (0 * 1 * d) a)
above a d h = lt→ltb (0 * 1 * d) a (omega arith)

pub root_negative : (f : Format) (x : Float) → T (lt x (fin false 0 (pos 0))) → root_in f x ≡ nan
unfolding root_in lt
root_negative f nan h = refl
root_negative f (inf true) h = refl
root_negative f (inf false) h = absurd h
root_negative f (fin true zero e) h = absurd (zero_not_above (up e) (down e) h)
root_negative f (fin true (suc m) e) h = refl
root_negative f (fin false zero e) h = absurd (none_below (0 * up e * 1) (down e) h)
root_negative f (fin false (suc m) e) h = absurd (none_below (suc m * up e * 1) (down e) h)

pub root_itself : (f : Format) (x : Float) → T (not (lt (fin false 0 (pos 0)) x)) → T (not (lt x (fin false 0 (pos 0)))) → root_in f x ≡ x
unfolding root_in lt
root_itself f nan h k = refl
root_itself f (inf true) h k = absurd k
root_itself f (inf false) h k = absurd h
root_itself f (fin true zero e) h k = refl
root_itself f (fin true (suc m) e) h k = absurd (T_not (ltb 0 (suc m * up e * 1 + 0 * 1 * down e)) k (more (suc m * up e * 1) (down e) (some m e)))
root_itself f (fin false zero e) h k = refl
root_itself f (fin false (suc m) e) h k = absurd (T_not (ltb (0 * 1 * down e) (suc m * up e * 1)) h (above (suc m * up e * 1) (down e) (some m e)))
