-- The checks of a plane and of the rings, a step at a time.
use mathlib.Core.Path.{◌≡◌, refl, ap, ap₂, ◌∙◌}
use mathlib.Core.Bool.{Bool, true, false, not, cond, ◌||◌}
use mathlib.Core.List.{List, [], ◌∷◌, ◌++◌, flatten, foldl}
use Prim.Native.Nat.{ℕ, ◌+◌, ◌≤◌, ◌<◌}
use native.Mathlib.Omega.{arith}
use lib.Dec.{ltb, eqb}
use lib.ListN.{length, take, drop, length-append, length-take, length-drop}
use lib.Seq.{drop-drop, length-take-le}
use lib.Ieee.{Float}
use borrow.Author.Tests.{eq-eqb, ne_eqb, lt-ltb, le-ltb}
use Rattle.sheet.specs.Content.{Coedge}
use Rattle.answers.specs.Lists.{any_of}
use Rattle.sheet.specs.Layout.{version, kind, ring_count, head_size, head, plane, numbers, coedge_parts, block_size, blocks}
use Rattle.sheet.proofs.Blocks.{blocks_whole}
use Rattle.sheet.proofs.Cuts.{behind}
use Rattle.std.specs.Prelude.{Option, Some, None}
use Rattle.std.specs.Option.{is_some}
use Rattle.sheet.specs.Faults.{number_of, fault_number}
use Rattle.sheet.specs.declared.fault.Fault.{Fault}
use Rattle.sheet.specs.declared.fault.Fault.TheVariants.{Blocks, PointCount}
use Rattle.sheet.specs.Checks.{first_fault, coedge_fault, block_fault, bytes_over, layout_fault, blocks_wrong, empty, coordinate_limit, axis_limit, plane_wrong, coedges_wrong}
use Rattle.answers.specs.Limits.{beyond}

-- ---- the plane: nine numbers, of which the first three are the origin

origin_of : (s : List ℕ) → take 3 (numbers 9 s) ≡ numbers 3 s
unfolding numbers
origin_of s = refl

axes_of_lem : (s : List ℕ) → drop 3 (numbers 9 s) ≡ numbers 6 (drop 24 s)
unfolding numbers
axes_of_lem s = ap (numbers 6) (ap (drop 8) (drop-drop 8 8 s) ∙ drop-drop 8 16 s)

pub plane_of_lem : (s : List ℕ) → kind s ≡ 0 → plane s ≡ numbers 9 (drop 8 s)
unfolding plane
plane_of_lem s e = rw (eq-eqb (kind s) 0 e)

pub plane_is : (s : List ℕ) → kind s ≡ 0 → plane_wrong (plane s) ≡ (any_of (beyond coordinate_limit) (numbers 3 (drop 8 s)) || any_of (beyond axis_limit) (numbers 6 (drop 32 s)))
unfolding plane_wrong
plane_is s e =
    ap plane_wrong (plane_of_lem s e)
    ∙ ap₂ (λ (a b : List Float). any_of (beyond coordinate_limit) a || any_of (beyond axis_limit) b) (origin_of (drop 8 s)) (axes_of_lem (drop 8 s) ∙ ap (numbers 6) (drop-drop 24 8 s))

pub no_plane_lem : (s : List ℕ) → (kind s ≡ 0 → ⊥) → plane_wrong (plane s) ≡ false
unfolding plane plane_wrong
no_plane_lem s e = rw (ne_eqb (kind s) 0 e)

-- ---- the coedges of the rings, of which `total` were counted before

abbrev pub wrong_from : ℕ → List (List Coedge) → Bool
wrong_from total rings = any_of empty rings || ltb 128 (foldl (λ (n : ℕ) (r : List Coedge). n + length r) total rings)

pub wrong_start : (rings : List (List Coedge)) → wrong_from 0 rings ≡ coedges_wrong rings
unfolding coedges_wrong
wrong_start rings = refl

wrong_empty : (total : ℕ) (r : List Coedge) (rest : List (List Coedge)) → length r ≡ 0 → wrong_from total (r ∷ rest) ≡ true
unfolding empty
wrong_empty total [] rest e = refl
wrong_empty total (c ∷ cs) rest e = absurd (omega arith)

wrong_more : (total : ℕ) (r : List Coedge) (rest : List (List Coedge)) → (length r ≡ 0 → ⊥) → wrong_from total (r ∷ rest) ≡ wrong_from (total + length r) rest
unfolding empty
wrong_more total [] rest e = absurd (e refl)
wrong_more total (c ∷ cs) rest e = refl

pub wrong_found : (total : ℕ) {rs rest : List (List Coedge)} {r : List Coedge} → rs ≡ r ∷ rest → length r ≡ 0 → wrong_from total rs ≡ true
wrong_found total {rest = rest} {r = r} e z = rw e (wrong_empty total r rest z)

pub wrong_passed : (total : ℕ) {rs rest : List (List Coedge)} {r : List Coedge} → rs ≡ r ∷ rest → (length r ≡ 0 → ⊥) → wrong_from total rs ≡ wrong_from (total + length r) rest
wrong_passed total {rest = rest} {r = r} e z = rw e (wrong_more total r rest z)

-- ---- the walk of check 5

pub some_number : (f : Fault) → number_of f ≡ 0 → ⊥
unfolding number_of
some_number Blocks e = omega (arith, e)
some_number PointCount e = omega (arith, e)

fault_seen : (fault : Option Fault) → is_some fault ≡ not (eqb (fault_number fault) 0)
unfolding fault_number number_of
fault_seen None = refl
fault_seen (Some Blocks) = refl
fault_seen (Some PointCount) = refl

pub fault_told : (s : List ℕ) (fault : Option Fault) → fault_number fault ≡ layout_fault s → is_some fault ≡ blocks_wrong s
unfolding blocks_wrong
fault_told s fault e = fault_seen fault ∙ ap (λ (n : ℕ). not (eqb n 0)) e

pub block_empty : (v : ℕ) (b : List ℕ) → length b ≡ 0 → block_fault v b ≡ 5
unfolding block_fault
block_empty v b e = rw (eq-eqb (length b) 0 e)

pub block_there : (v : ℕ) (b : List ℕ) → (length b ≡ 0 → ⊥) → block_fault v b ≡ first_fault (coedge_fault v) (coedge_parts v b)
unfolding block_fault
block_there v b e = rw (ne_eqb (length b) 0 e)

module _ (s : List ℕ) where
  -- the first fault of the blocks
  abbrev pub faults : ℕ
  faults = first_fault (block_fault (version s)) (blocks s)

  pub layout_short : length s < head_size (kind s) → layout_fault s ≡ 5
  unfolding layout_fault
  layout_short h = rw (lt-ltb (length s) (head_size (kind s)) h)

  module _ (fits : head_size (kind s) ≤ length s) where
    layout_blocks : layout_fault s ≡ cond (eqb faults 0) (cond (bytes_over s) 5 0) faults
    unfolding layout_fault
    layout_blocks = rw (le-ltb (length s) (head_size (kind s)) fits)

    pub layout_found : {n : ℕ} → faults ≡ n → (n ≡ 0 → ⊥) → layout_fault s ≡ n
    layout_found {n} e some = layout_blocks ∙ rw (e, ne_eqb n 0 some)

    pub layout_over : faults ≡ 0 → length (head s) + length (flatten (blocks s)) < length s → layout_fault s ≡ 5
    unfolding bytes_over
    layout_over e h = layout_blocks ∙ rw (e, lt-ltb (length (head s ++ flatten (blocks s))) (length s) (omega (arith, h, length-append (head s) (flatten (blocks s)))))

    pub layout_none : faults ≡ 0 → length s ≤ length (head s) + length (flatten (blocks s)) → layout_fault s ≡ 0
    unfolding bytes_over
    layout_none e h = layout_blocks ∙ rw (e, le-ltb (length (head s ++ flatten (blocks s))) (length s) (omega (arith, h, length-append (head s) (flatten (blocks s)))))

    pub head_length : length (head s) ≡ head_size (kind s)
    unfolding head
    head_length = length-take-le (head_size (kind s)) s fits

-- head and blocks are no more than the sheet
pub filled_most : (s : List ℕ) → length (head s) + length (flatten (blocks s)) ≤ length s
unfolding head
filled_most s =
    let h = head_size (kind s) in
    let size = block_size (version s) in
    let left = behind size (ring_count s) (drop h s) in
    omega (arith, ap length (blocks_whole s), length-append (flatten (blocks s)) left, length-take h s, length-drop h s)
