-- `sheet::fields::word` is the first four bytes, big-endian.
use native.Mathlib.Omega.{arith}
use Rattle.sheet.proofs.Bytes.{big_four}
use Rattle.sheet.proofs.fields.word.Goals as goal

pub returns : goal.returns
returns c = omega (arith, big_four c.args.s.now c.requires)
