-- Whole turns by a period that is finite and above 0 keep the order, since a quotient by it, the rounding to a whole
-- number and a product with it do.
-- A copy of a segment turns with the point's u, and its ends move as the turns do: where both ends are the same at two
-- columns, and no zeros, they are so at every column between.
use mathlib.Core.Path.{◌≡◌}
use mathlib.Core.Bool.{not}
use lib.Dec.{T}
use lib.Ieee.{Float, binary64, add, sub, div, fits, eq, le}
use lib.Ieee.Fits.{add-fits, mul-fits}
use lib.Ieee.Positive.{positive}
use lib.Ieee.Scale.{finite}
use Rattle.leaves.specs.Constants.{plus_zero}
use Rattle.leaves.specs.Round.{round_of}
use Rattle.leaves.proofs.Order.{eq→le, eq_sym, float_le_trans, same_nonzero}
use Rattle.leaves.proofs.Monotone.{add_mono_second, float_div_mono, mul_mono, sub_mono}
use Rattle.leaves.proofs.Wholes.{f64_round_mono}
use Rattle.points.specs.Turns.{turns}

-- ---- the order

-- the number of turns
count_mono : (x y period : Float) → T (positive period) → T (le x y) → T (le (round_of (div binary64 x period)) (round_of (div binary64 y period)))
count_mono x y period h l = f64_round_mono (div binary64 x period) (div binary64 y period) (float_div_mono binary64 x y period h l)

pub turns_mono : (x y period : Float) → T (positive period) → T (le x y) → T (le (turns x period) (turns y period))
unfolding turns
turns_mono x y period h l = mul_mono binary64 (round_of (div binary64 x period)) (round_of (div binary64 y period)) period h (count_mono x y period h l)

pub turns_fits : (x period : Float) → T (fits binary64 (turns x period))
unfolding turns
turns_fits x period = mul-fits binary64 (round_of (div binary64 x period)) period

-- a value that moves up with x is the same between two places where it is the same, unless it is a zero there
squeezed : (move : Float → Float) → ((x y : Float) → T (le x y) → T (le (move x) (move y))) → ((x : Float) → T (fits binary64 (move x)))
    → (lo x hi : Float) → T (le lo x) → T (le x hi) → T (eq (move lo) (move hi)) → T (not (eq (move lo) plus_zero)) → move x ≡ move lo
squeezed move up fit lo x hi l k e n =
    same_nonzero binary64 (move lo) (move x) (fit lo) (fit x) n (up lo x l)
    (float_le_trans binary64 (move x) (move hi) (move lo) (fit x) (fit hi) (fit lo) (up x hi k) (eq→le (move hi) (move lo) (eq_sym (move lo) (move hi) e)))

-- ---- copies

-- c and the whole turns of u - mid, for a column u
abbrev pub moved : Float → Float → Float → Float → Float
moved period mid c u = add binary64 c (turns (sub binary64 u mid) period)

pub moved_squeeze : (period mid c : Float) → T (positive period) → T (finite mid) → T (finite c) → (lo u hi : Float) → T (le lo u) → T (le u hi)
    → T (eq (moved period mid c lo) (moved period mid c hi)) → T (not (eq (moved period mid c lo) plus_zero)) → moved period mid c u ≡ moved period mid c lo
moved_squeeze period mid c h m g =
    squeezed (moved period mid c)
    (λ x y l. add_mono_second binary64 c (turns (sub binary64 x mid) period) (turns (sub binary64 y mid) period) g (turns_mono (sub binary64 x mid) (sub binary64 y mid) period h (sub_mono binary64 x y mid m l)))
    (λ x. add-fits binary64 c (turns (sub binary64 x mid) period))
