-- what the file gave, and why it failed, is what the read of the buffer told
use Rattle.std.proofs.Common.{sym, ◌∙◌, arith}
use Rattle.cases.proofs.Faults.{wrapped_told, fails, passes, falls_short, fills}
use Rattle.cases.proofs.reading.read_whole.Goals as goal

pub returns-in_err-n-clause-told : goal.returns-in_err-n-clause-told
returns-in_err-n-clause-told g c =
    let t = c.read_full.ensures.told in
    (t.0, fails _ _ t.0.fault _ _ _ (sym c.in_err-n.was ∙ wrapped_told _ _ _ _ t.0.fault t.1 c.map_err.ensures.cases) c.from_residual.ensures.1, t.2)

pub returns-then-n-buffer-clause-told : goal.returns-then-n-buffer-clause-told
returns-then-n-buffer-clause-told g c =
    let t = c.read_full.ensures.told in
    let p = passes _ _ _ t.0.fault _ (sym c.in_ok-n.was ∙ wrapped_told _ _ _ _ t.0.fault t.1 c.map_err.ensures.cases) in
    (t.0, sym (falls_short _ t.0.bytes (omega (arith, p.0, c.if-n-buffer.true, c.read_full.auto.buffer))) ∙ p.1, t.2)

pub returns-clause-told : goal.returns-clause-told
returns-clause-told g c =
    let t = c.read_full.ensures.told in
    let p = passes _ _ _ t.0.fault _ (sym c.in_ok-n.was ∙ wrapped_told _ _ _ _ t.0.fault t.1 c.map_err.ensures.cases) in
    (t.0, sym (fills _ t.0.bytes (omega (arith, p.0, c.if-n-buffer.false, c.read_full.auto.buffer))) ∙ p.1, t.2)
