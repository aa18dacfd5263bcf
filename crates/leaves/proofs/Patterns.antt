-- Laws about NaNs: what is rounded is none, nor is a number plus a finite one, nor one over a number.
use Rattle.std.proofs.Common.{ℕ, zero, suc, ◌+◌, ◌-◌, ◌*◌, ◌/◌, ◌^◌, Bool, true, false, cond, not, ◌&&◌, T, eqb, ltb, sym, subst}
use mathlib.Core.Bool.{beq}
use lib.Ieee.{Float, nan, inf, fin, Format, prec, low, up, down, binary64, is_nan, of_bits, size, unlike, odd, units, round, sum, add, div}
use lib.Ieee.Fits.{round_is}
use lib.Ieee.Nearest.{closest}
use lib.Ieee.Scale.{finite, overflow}
use Rattle.leaves.specs.Constants.{one}

-- ---- operations that give no NaN

-- no NaN
abbrev pub Number : Float → Type 0
Number x = T (not (is_nan x))

choice : (b : Bool) (x y : Float) → Number x → Number y → Number (cond b x y)
choice true x y h k = h
choice false x y h k = k

odd_number : (d : ℕ) (s : Bool) (q k l : ℕ) → Number (odd d s q k l)
unfolding odd is_nan
odd_number d s zero k l = tt
odd_number d s (suc q) k l = tt

units_number : (f : Format) (s : Bool) (q k : ℕ) → Number (units f s q k)
unfolding units is_nan
units_number f s q k = choice (ltb (q * 2 ^ k) (overflow f)) (odd (suc (prec f)) s q k (low f)) (inf s) (odd_number (suc (prec f)) s q k (low f)) tt

pub round_number : (f : Format) (s : Bool) (num den : ℕ) → Number (round f s num den)
round_number f s num den =
    let k = size (num * 2 ^ low f / den) - prec f in
    subst Number (sym (round_is f s num den)) (units_number f s (closest (num * 2 ^ low f) (den * 2 ^ k)) k)

sum_number : (f : Format) (s : Bool) (a : ℕ) (t : Bool) (b c : ℕ) → Number (sum f s a t b c)
unfolding sum
sum_number f s a t b c =
    choice (beq s t) (round f s (a + b) c) (cond (ltb a b) (round f t (b - a) c) (round f (s && ltb b a) (a - b) c)) (round_number f s (a + b) c)
    (choice (ltb a b) (round f t (b - a) c) (round f (s && ltb b a) (a - b) c) (round_number f t (b - a) c) (round_number f (s && ltb b a) (a - b) c))

pub add_number : (f : Format) (x y : Float) → Number x → T (finite y) → Number (add f x y)
unfolding add is_nan
add_number f nan y h k = absurd h
add_number f (inf s) nan h k = absurd k
add_number f (inf s) (inf t) h k = absurd k
add_number f (inf s) (fin t n d) h k = tt
add_number f (fin s m e) nan h k = absurd k
add_number f (fin s m e) (inf t) h k = tt
add_number f (fin s m e) (fin t n d) h k = sum_number f s (m * up e * down d) t (n * up d * down e) (down e * down d)

pub one_over_number : (x : Float) → Number x → Number (div binary64 one x)
unfolding div of_bits is_nan
one_over_number nan h = absurd h
one_over_number (inf t) h = tt
one_over_number (fin t n d) h =
    choice (eqb n 0) (inf (unlike false t)) (round binary64 (unlike false t) (1 * 1 * down d) (n * up d * 1)) tt (round_number binary64 (unlike false t) (1 * 1 * down d) (n * up d * 1))
