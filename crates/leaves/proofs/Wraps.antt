-- The wrap of rule 1 is a value of the format, and never -0: a difference is -0 only where the first is -0 and the
-- second +0, and PI is not. Assumes nothing.
-- Nor does a remainder by TAU ask anything to be a value of the format; a finite number's is no NaN, and its wrap is at
-- most 18 in magnitude.
use Rattle.std.proofs.Common.{◌≡◌, ℕ, ◌+◌, ◌*◌, ◌%◌, ◌^◌, ◌<◌, ◌≤◌, Bool, true, false, cond, not, T, negsuc, sym, refl, ap, ◌∙◌, subst, le_trans, le_of_eq, le_of_lt, mul-le-mul_right, mod-lt, mul_assoc, mul_comm, mul-pos, arith}
use lib.Ieee.{Float, nan, inf, fin, binary64, prec, up, down, of_bits, neg, add, rem, lt, fits}
use lib.Ieee.Bits.{of_bits-fits}
use lib.Ieee.Fits.{add-fits, sub-fits, rem-fits, cond-fits, down_pos, nan-fits, round-fits}
use lib.Ieee.Scale.{finite}
use Rattle.leaves.specs.Constants.{plus_zero, pi, tau}
use Rattle.leaves.specs.Wrap.{lifted, rem_tau, wrap_of}
use Rattle.leaves.proofs.Magnitudes.{Most, add_most, most_either, most_finite, most_more, round_most, sub_most}
use Rattle.leaves.proofs.Order.{minus_zero}
use Rattle.leaves.proofs.Patterns.{Number, add_number, round_number}
use Rattle.leaves.proofs.Signs.{sub_clear_second}

lifted_fits : (r : Float) → T (fits binary64 r) → T (fits binary64 (lifted r))
unfolding lifted
lifted_fits r h = cond-fits binary64 (lt r plus_zero) (add binary64 r tau) r (add-fits binary64 r tau) h

pi_marked : T (not (minus_zero (neg pi)))
unfolding of_bits neg
pi_marked = tt

pub wrap_fits : (v : Float) → T (fits binary64 (wrap_of v))
unfolding wrap_of
wrap_fits v = sub-fits binary64 (lifted (rem binary64 (add binary64 (add binary64 v pi) pi) tau)) pi

pub wrap_clear : (v : Float) → T (not (minus_zero (wrap_of v)))
unfolding wrap_of
wrap_clear v =
    let r = rem binary64 (add binary64 (add binary64 v pi) pi) tau in
    sub_clear_second binary64 (lifted r) pi (lifted_fits r (rem-fits binary64 (add binary64 (add binary64 v pi) pi) tau (add-fits binary64 (add binary64 v pi) pi))) (of_bits-fits binary64 0x400921FB54442D18) pi_marked

-- ---- the remainder by TAU

abbrev pub tau_value : Float
tau_value = fin false 884279719003555 (negsuc 46)

pub tau_is : tau ≡ tau_value
unfolding of_bits
tau_is = refl

rem_held : (x : Float) → T (fits binary64 (rem binary64 x tau_value))
unfolding rem
rem_held nan = nan-fits binary64
rem_held (inf s) = nan-fits binary64
rem_held (fin s m e) = round-fits binary64 s (m * up e * down (negsuc 46) % (884279719003555 * up (negsuc 46) * down e)) (down e * down (negsuc 46))

rem_number : (x : Float) → T (finite x) → Number (rem binary64 x tau_value)
unfolding rem
rem_number nan h = absurd h
rem_number (inf s) h = absurd h
rem_number (fin s m e) h = round_number binary64 s (m * up e * down (negsuc 46) % (884279719003555 * up (negsuc 46) * down e)) (down e * down (negsuc 46))

tau_finite : T (finite tau)
tau_finite = subst (λ (y : Float). T (finite y)) (sym tau_is) tt

lifted_number : (r : Float) → Number r → Number (lifted r)
unfolding lifted
lifted_number r h = go (lt r plus_zero)
  where
    go : (b : Bool) → Number (cond b (add binary64 r tau) r)
    go true = add_number binary64 r tau h tau_finite
    go false = h

pub rem_tau_fits : (x : Float) → T (fits binary64 (rem_tau x))
unfolding rem_tau
rem_tau_fits x = lifted_fits (rem binary64 x tau) (subst (λ (y : Float). T (fits binary64 (rem binary64 x y))) (sym tau_is) (rem_held x))

pub rem_tau_number : (x : Float) → T (finite x) → Number (rem_tau x)
unfolding rem_tau
rem_tau_number x h = lifted_number (rem binary64 x tau) (subst (λ (y : Float). Number (rem binary64 x y)) (sym tau_is) (rem_number x h))

-- ---- the magnitude of the wrap: a remainder by TAU is less than TAU, which is less than 7

-- a remainder by k d is at most n d w, where k is at most n w
rem_under : (x k w d n : ℕ) → 0 < k * 1 * d → k * 1 ≤ n * w → x % (k * 1 * d) ≤ n * (d * w)
rem_under x k w d n D l =
    le_trans (le_of_lt (mod-lt x D)) (le_trans (mul-le-mul_right d l) (le_of_eq (mul_assoc n w d ∙ ap (λ (y : ℕ). n * y) (mul_comm w d))))

rem_most : (x : Float) → T (finite x) → Most 7 (rem binary64 x tau_value)
unfolding rem
rem_most nan h = absurd h
rem_most (inf s) h = absurd h
rem_most (fin s m e) h =
    round_most binary64 s (m * up e * down (negsuc 46) % (884279719003555 * up (negsuc 46) * down e)) (down e * down (negsuc 46)) 7 (mul-pos (down_pos e) (down_pos (negsuc 46))) (omega arith)
    (rem_under (m * up e * down (negsuc 46)) 884279719003555 (down (negsuc 46)) (down e) 7 (mul-pos (omega arith) (down_pos e)) (omega arith))

pub tau_most : Most 7 tau
unfolding of_bits
tau_most = omega arith

pi_most : Most 4 pi
unfolding of_bits
pi_most = omega arith

lifted_most : (r : Float) → Most 7 r → Most 14 (lifted r)
unfolding lifted
lifted_most r h = most_either 14 (lt r plus_zero) (add binary64 r tau) r (add_most binary64 r tau 7 7 (omega arith) h tau_most) (most_more 7 14 r (omega arith) h)

pub wrap_most : (v : Float) (n : ℕ) → n + 8 ≤ 2 ^ prec binary64 → Most n v → Most 18 (wrap_of v)
unfolding wrap_of rem_tau
wrap_most v n fit h =
    let once = add binary64 v pi in
    let twice = add binary64 once pi in
    let m = add_most binary64 once pi (n + 4) 4 (omega arith) (add_most binary64 v pi n 4 (omega arith) h pi_most) pi_most in
    sub_most binary64 (rem_tau twice) pi 14 4 (omega arith)
    (lifted_most (rem binary64 twice tau) (subst (λ (y : Float). Most 7 (rem binary64 twice y)) (sym tau_is) (rem_most twice (most_finite (n + 4 + 4) twice m)))) pi_most
