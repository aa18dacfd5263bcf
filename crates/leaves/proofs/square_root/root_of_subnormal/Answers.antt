-- `leaves::square_root::root_of_subnormal`: the digits are moved up by as many places as the exponent goes down.
use Rattle.std.proofs.Common.{◌≡◌, ℕ, ◌+◌, ◌-◌, ◌*◌, ◌%◌, ◌^◌, ◌<◌, ◌≤◌, sym, refl, ap, ◌∙◌, subst, lt_of_lt_of_le, mod-eq_of_lt, mul_assoc, arith, lit≤, pow-add}
use lib.Count.{count_leading_zeros}
use Rattle.leaves.proofs.PackedRoots.{at_fraction, lowered, Moved, moved}
use Rattle.leaves.proofs.square_root.root_of_subnormal.Goals as goal

-- the place of the highest set digit
at : (c : goal.Start) → (11 ≤ count_leading_zeros 64 c.args.low) × Moved c.args.low (count_leading_zeros 64 c.args.low - 11)
at c = moved c.args.low (count_leading_zeros 64 c.args.low) c.requires.not_zero c.requires.small refl

-- nothing is shifted out
kept : (c : goal.Start) → c.args.low * 2 ^ (count_leading_zeros 64 c.args.low - 11) % 2 ^ 64 ≡ c.args.low * 2 ^ (count_leading_zeros 64 c.args.low - 11)
kept c = mod-eq_of_lt (lt_of_lt_of_le (at c).1.small (lit≤ tt))

pub overflow_sub-places : goal.overflow_sub-places
overflow_sub-places c = let m = (at c).1 in omega (arith, (at c).0, m.some)

pub root_of_scaled-requires-clause-large : goal.root_of_scaled-requires-clause-large
root_of_scaled-requires-clause-large c = let m = (at c).1 in subst (λ (z : ℕ). 2 ^ 52 ≤ z) (sym (kept c)) m.reached

pub root_of_scaled-requires-clause-small : goal.root_of_scaled-requires-clause-small
root_of_scaled-requires-clause-small c = let m = (at c).1 in subst (λ (z : ℕ). z < 2 ^ 53) (sym (kept c)) m.small

pub returns : goal.returns
returns c =
    let low = c.args.low in
    let places = count_leading_zeros 64 low - 11 in
    lowered c.root_of_scaled.result low 1074 1022
    (at_fraction c.root_of_scaled.result (low * 2 ^ places % 2 ^ 64 * 2 ^ (1022 - places)) (low * 2 ^ 1022) 2096
    (ap (λ (z : ℕ). z * 2 ^ (1022 - places)) (kept c.before) ∙ mul_assoc low (2 ^ places) (2 ^ (1022 - places)) ∙ ap (λ (z : ℕ). low * z) (sym (pow-add 2 places (1022 - places)) ∙ ap (λ (z : ℕ). 2 ^ z) (whole places (at c.before).1.most)))
    c.root_of_scaled.ensures)
  where
    whole : (p : ℕ) → p ≤ 52 → p + (1022 - p) ≡ 1022
    whole p h = omega arith
