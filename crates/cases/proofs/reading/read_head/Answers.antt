-- what the file gave, and why it failed, is what the read of the head's bytes told
use Rattle.std.proofs.Common.{sym, ◌∙◌, ap, append_assoc, arith, rules}
use lib.Seq.{take-append_seam}
use Rattle.cases.proofs.Buffers.{given_of, laid_first}
use Rattle.cases.proofs.Faults.{wrapped_told, fails, passes}
use Rattle.cases.specs.Record.{head_of}
use Rattle.cases.proofs.reading.read_head.Goals as goal

pub returns-in_err-n-clause-told : goal.returns-in_err-n-clause-told
returns-in_err-n-clause-told g c =
    let t = c.read_full.ensures.told in
    (given_of _ 12 _ _ (omega arith) t.0, fails _ _ t.0.fault _ _ _ (sym c.in_err-n.was ∙ wrapped_told _ _ _ _ t.0.fault t.1 c.map_err.ensures.cases) c.from_residual.ensures.1)

pub returns-clause-told : goal.returns-clause-told
returns-clause-told g c =
    let t = c.read_full.ensures.told in
    let p = passes _ _ _ t.0.fault _ (sym c.in_ok-n.was ∙ wrapped_told _ _ _ _ t.0.fault t.1 c.map_err.ensures.cases) in
    (given_of _ 12 _ _ (omega arith) t.0, c.head_of.ensures ∙ ap head_of (search (rules, append_assoc, take-append_seam, p.0, t.2 ∙ laid_first _ _ t.0.at_most)) ∙ p.1)
