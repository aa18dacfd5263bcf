-- `capi::facepoint_image_pick` meets its contract, by those of `image_pick` and `put`.
use mathlib.Core.Path.{ap, ◌∙◌}
use Rattle.answers.specs.Outcome.{Numbers}
use Rattle.answers.specs.Returned.{returned_of}
use Rattle.picker.specs.ImagePick.{image_pick_of}
use Rattle.std.specs.Prelude.{ℕ}
use Rattle.capi.specs.Convention.{image_pick_returned}
use Rattle.capi.proofs.facepoint_image_pick.Goals as goal

pub returns : goal.returns
unfolding image_pick_returned
returns c =
    let a = c.args in
    c.put.ensures ∙ ap (λ (n : Numbers). returned_of n a.list.now) (c.image_pick.ensures ∙ ap (λ (phase : ℕ). image_pick_of a.sheet.now phase a.images.now) c.from.ensures)
