-- `inside::lines::flip_ring` flips the cells in the front of a list that has room for them.
use mathlib.Core.Path.{◌≡◌, sym, ap, ◌∙◌}
use mathlib.Core.Bool.{Bool, false, xor}
use mathlib.Core.List.{List, ◌++◌}
use Prim.Native.Nat.{ℕ, ◌<◌}
use native.Mathlib.Omega.{arith}
use lib.ListN.{get_or, drop}
use lib.Seq.{get_or-take}
use Rattle.std.specs.Array.{IsFirstChunk}
use Rattle.sheet.specs.Content.{Point}
use Rattle.answers.specs.Lists.{over}
use Rattle.answers.proofs.Over.{over_short, over_room}
use Rattle.inside.specs.Inside.{inside_of}
use Rattle.inside.specs.Lines.{Holds, by_rows, flipped_by}
use Rattle.inside.proofs.Cells.{flipped_length, all_flipped}
use Rattle.inside.proofs.lines.flip_ring.Goals as goal

front_flipped : (ring : List Point) (cells front ys : List Bool) → IsFirstChunk cells front 961 → Holds false 961 ys (λ (k : ℕ). xor (get_or front k false) (inside_of ring (by_rows k))) → ys ++ drop 961 cells ≡ over (flipped_by ring cells) cells
front_flipped ring cells front ys first new =
    let room = first.enough in
    let old : (k : ℕ) → k < 961 → get_or front k false ≡ get_or cells k false = λ k n. rw first.same (get_or-take 961 cells k false n) in
    let e : ys ≡ flipped_by ring cells = all_flipped ring cells (record { count = new.count; is = λ k n. new.is k n ∙ ap (λ (t : Bool). xor t (inside_of ring (by_rows k))) (old k n) }) in
    rw (e, over_room (flipped_by ring cells) cells (omega (arith, flipped_length ring cells)), flipped_length ring cells)

pub returns-in-Some : goal.returns-in-Some
returns-in-Some c = front_flipped c.args.ring.now c.args.cells.now c.in-Some.front.now _ c.in-Some.ensures.cases c.flip_cells.ensures

pub returns-in_default : goal.returns-in_default
returns-in_default c =
    let x = c.args in
    let short = c.in_default.ensures.cases in
    sym (over_short (flipped_by x.ring.now x.cells.now) x.cells.now (omega (arith, flipped_length x.ring.now x.cells.now)))
