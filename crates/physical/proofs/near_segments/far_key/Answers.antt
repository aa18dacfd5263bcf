-- `physical::near_segments::far_key` is a key that no distance up to the limit has: its own hypotenuse is above the
-- limit, by the test, or it is infinity, and the limit is below that.
use mathlib.Core.Path.{◌≡◌, sym, ap, subst, ◌∙◌}
use mathlib.Core.Bool.{Bool, true}
use lib.Dec.{T}
use lib.Ieee.{Float, binary64, add, lt}
use Rattle.leaves.specs.Constants.{plus_zero}
use Rattle.leaves.specs.Hypot.{hypot_of, hypot_of_key}
use Rattle.leaves.specs.Keys.{Key}
use Rattle.leaves.proofs.Hypotenuses.{key_is}
use Rattle.leaves.proofs.Limits.{Above, far_hypot, inf_above}
use Rattle.physical.specs.Stages.{Far}
use Rattle.leaves.proofs.ConstantBits.{infinity_bits}
use Rattle.physical.proofs.near_segments.far_key.Goals as goal

far : (limit k : Float) → Above limit k → Far limit k
far limit k h = record { beyond = far_hypot limit k h }

passed : {b : Bool} → b ≡ true → T b
passed e = subst T (sym e) tt

pub returns-then-limit-hypot : goal.returns-then-limit-hypot
returns-then-limit-hypot c =
    let alone : c.hypot.result ≡ hypot_of (hypot_of_key c.key-key.result) plus_zero = c.hypot.ensures ∙ ap (λ (h : Float). hypot_of h plus_zero) c.hypot_of_key.ensures in
    far c.args.limit c.key-key.result
    (record {
      held = passed c.well_formed.0.1;
      key = subst Key (sym c.key-key.ensures) (key_is (add binary64 c.args.limit c.args.limit) plus_zero);
      longer = passed (ap (lt c.args.limit) (sym alone) ∙ c.if-limit-hypot.true);
    })

pub returns-else-limit-hypot : goal.returns-else-limit-hypot
returns-else-limit-hypot c =
    rw infinity_bits (far c.args.limit _ (inf_above c.args.limit (passed c.well_formed.0.1) (passed c.requires)))
