-- `leaves::nearest::round` is `round_of`: a negative value is rounded as its magnitude is, and what is not rounded has
-- no fraction. From 2 ^ 52 on no value has one.
use Rattle.std.proofs.Common.{◌≡◌, ◌+◌, ◌*◌, ◌^◌, true, false, not, T, sym, refl, ap, ◌∙◌, arith, ltb→lt, lt→ltb, nltb→le}
use Rattle.std.proofs.lemmas.Float.{T_from_true, T_from_false}
use lib.Ieee.{Float, nan, inf, fin, binary64, up, down, lt, neg, fits, of_bits}
use lib.Ieee.Fits.{neg-fits}
use Rattle.leaves.specs.Constants.{plus_zero}
use Rattle.leaves.specs.Round.{round_of}
use Rattle.leaves.proofs.Signs.{neg_neg}
use Rattle.leaves.proofs.Wholes.{round_large, round_neg, round_zero}
use Rattle.leaves.proofs.nearest.round.Goals as goal

turned : (x : Float) → neg (round_of (neg x)) ≡ round_of x
unfolding round_of
turned x = ap neg (round_neg binary64 x) ∙ neg_neg (round_of x)

above : (x : Float) → T (lt x plus_zero) → T (lt plus_zero (neg x))
unfolding lt of_bits neg
above nan p = absurd p
above (inf true) p = tt
above (inf false) p = absurd p
above (fin true m e) p = lt→ltb (0 * 2 ^ 0 * down e) (m * up e * 1) (omega (arith, ltb→lt 0 (m * up e * 1 + 0 * 2 ^ 0 * down e) p))
above (fin false m e) p = absurd (omega (arith, ltb→lt (m * up e * 1) (0 * 2 ^ 0 * down e) p))

large : (x : Float) → T (fits binary64 x) → T (lt plus_zero x) → T (not (lt x (of_bits binary64 0x4330000000000000))) → x ≡ round_of x
unfolding lt of_bits round_of
large nan h p q = refl
large (inf s) h p q = refl
large (fin true m e) h p q = absurd p
large (fin false m e) h p q = sym (round_large binary64 false m e h (omega (arith, nltb→le (m * up e * 1) (1 * 2 ^ 52 * down e) q)))

neither : (x : Float) → T (fits binary64 x) → T (not (lt plus_zero x)) → T (not (lt x plus_zero)) → x ≡ round_of x
unfolding lt of_bits round_of
neither nan h p q = refl
neither (inf s) h p q = refl
neither (fin true m e) h p q = sym (round_zero binary64 true m e h (omega (arith, nltb→le 0 (m * up e * 1 + 0 * 2 ^ 0 * down e) q)))
neither (fin false m e) h p q = sym (round_zero binary64 false m e h (omega (arith, nltb→le (0 * 2 ^ 0 * down e) (m * up e * 1) p)))

pub nearest_whole-requires-then-x-4-clause-above_zero : goal.nearest_whole-requires-then-x-4-clause-above_zero
nearest_whole-requires-then-x-4-clause-above_zero c = above c.args.x (T_from_true _ c.if-x-3.true)

pub returns-else-x-2 : goal.returns-else-x-2
returns-else-x-2 c = large c.args.x (T_from_true _ c.well_formed.0.1) (T_from_true _ c.if-x.true) (T_from_false _ c.if-x-2.false)

pub returns-then-x-4 : goal.returns-then-x-4
returns-then-x-4 c = ap neg c.nearest_whole-then-x-4.ensures ∙ turned c.args.x

pub returns-else-x-4 : goal.returns-else-x-4
returns-else-x-4 c =
    let x = c.args.x in
    sym (neg_neg x) ∙ ap neg (large (neg x) (neg-fits binary64 x (T_from_true _ c.well_formed.0.1)) (above x (T_from_true _ c.if-x-3.true)) (T_from_false _ c.if-x-4.false)) ∙ turned x

pub returns-else-x-3 : goal.returns-else-x-3
returns-else-x-3 c = neither c.args.x (T_from_true _ c.well_formed.0.1) (T_from_false _ c.if-x.false) (T_from_false _ c.if-x-3.false)
