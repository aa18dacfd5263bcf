-- `sheet::fields::number` is the f64 at the place: `+0` where fewer than eight bytes are left, else the eight there as
-- one pattern.
use Rattle.std.proofs.Common.{◌≡◌, ◌≤◌, sym, ap, ◌∙◌, arith, length, take, drop, length-drop}
use Rattle.std.proofs.lemmas.List.{take_rest}
use Rattle.std.specs.Int.{from_be_bytes, w64}
use Rattle.sheet.specs.Layout.{number_of}
use Rattle.sheet.proofs.Bytes.{big_eight, number_short, number_whole}
use Rattle.sheet.proofs.fields.number.Goals as goal

pub returns-in_default : goal.returns-in_default
returns-in_default c =
    sym (number_short (drop c.args.at c.args.s.now) (omega (arith, length-drop c.args.at c.args.s.now, c.in_default.ensures.lookup)))

pub returns-in_default-first_chunk : goal.returns-in_default-first_chunk
returns-in_default-first_chunk c =
    let behind : c.in-Some.rest.now ≡ drop c.args.at c.args.s.now = c.in-Some.ensures.lookup.0.2 ∙ take_rest c.args.s.now c.args.at in
    sym (number_short (drop c.args.at c.args.s.now) (omega (arith, ap length behind, c.in_default-first_chunk.ensures.cases)))

pub returns : goal.returns
returns c =
    let behind : c.in-Some.rest.now ≡ drop c.args.at c.args.s.now = c.in-Some.ensures.lookup.0.2 ∙ take_rest c.args.s.now c.args.at in
    let chunk = c.in-Some-first_chunk.ensures.cases in
    let long : 8 ≤ length (drop c.args.at c.args.s.now) = omega (arith, ap length behind, chunk.enough) in
    c.float.ensures
    ∙ ap number_of (c.from_be_bytes.ensures ∙ ap (from_be_bytes w64) (chunk.same ∙ ap (take 8) behind) ∙ big_eight (drop c.args.at c.args.s.now) long)
    ∙ sym (number_whole (drop c.args.at c.args.s.now) long)
