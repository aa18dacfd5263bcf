-- `capi::facepoint_plane_pick` meets its contract, by those of `plane_pick` and `put`.
use mathlib.Core.Path.{ap, ◌∙◌}
use Rattle.answers.specs.Outcome.{Numbers}
use Rattle.answers.specs.Returned.{returned_of}
use Rattle.capi.specs.Convention.{plane_pick_returned}
use Rattle.capi.proofs.facepoint_plane_pick.Goals as goal

pub returns : goal.returns
unfolding plane_pick_returned
returns c =
    let a = c.args in
    c.put.ensures ∙ ap (λ (n : Numbers). returned_of n a.list.now) c.plane_pick.ensures
