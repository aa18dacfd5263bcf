-- `capi::facepoint_chart` meets its contract, by those of `chart` and `put`: another length than five is refused first
-- of all.
use mathlib.Core.Path.{ap, ◌∙◌}
use Rattle.std.specs.Prelude.{ℕ}
use Rattle.chart.specs.Chart.{chart_of}
use Rattle.capi.specs.Convention.{chart_seen}
use Rattle.capi.proofs.Five.{chart_other_length, chart_of_five}
use Rattle.capi.proofs.facepoint_chart.Goals as goal

pub returns-then-list-ne-RESULT_LENGTH : goal.returns-then-list-ne-RESULT_LENGTH
unfolding chart_seen
returns-then-list-ne-RESULT_LENGTH c =
    let a = c.args in
    chart_other_length (chart_of a.sheet.now a.phase a.points.now) a.points.now a.list.now c.if-list-ne-RESULT_LENGTH.true

pub returns : goal.returns
unfolding chart_seen
returns c =
    let a = c.args in
    let call = c.chart in
    chart_of_five (chart_of a.sheet.now a.phase a.points.now) a.points.now a.list.now _ _ _ call.result c.if-list-ne-RESULT_LENGTH.false (call.ensures ∙ ap (λ (phase : ℕ). chart_of a.sheet.now phase a.points.now) c.from.ensures) c.put.ensures
