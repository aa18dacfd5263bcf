-- `vertices::Axes::first_corner` finds the first of the corners that the iterator has to give.
use Rattle.std.proofs.Common.{rules, tests, sym, ◌∙◌}
use Rattle.std.proofs.lemmas.Iterator.Adapters.{option_map_id}
use Rattle.std.proofs.lemmas.Iterator.Consumers.{YieldsList-from_first}
use Rattle.std.proofs.lemmas.Iterator.Search.{find_from_yields_List}
use Rattle.vertex_fallback.specs.Left.{corners_left}
use Rattle.vertex_fallback.specs.Vertices.{serves_of}
use Rattle.vertex_fallback.proofs.vertices.Axes.first_corner.Goals as goal

pub returns : goal.returns
returns c =
    let a = c.args in
    sym (option_map_id c.find.result)
    ∙ find_from_yields_List (serves_of a.self.u a.self.v a.ring.now) _ _ c.find.result c.find.ensures.ran (YieldsList-from_first (λ x. x) corners_left _ c.around.ensures) (λ x b q k. search (rules, tests))
