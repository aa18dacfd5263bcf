-- Of version 1. "The largest accepted sheet has 35,936 bytes": how long a sheet is whose blocks fill it, and that one
-- which passes check 6 is no longer. "Every ring has 17 points or more."
use mathlib.Core.Path.{◌≡◌, refl, sym, ap, subst}
use mathlib.Core.List.{List, [], ◌∷◌, ◌++◌, map, flatten, flat_map}
use Prim.Native.Nat.{ℕ, ◌+◌, ◌*◌, ◌≤◌}
use native.Mathlib.Omega.{arith}
use lib.ListN.{length, length-append}
use Rattle.leaves.proofs.Folds.{All, sum_cons}
use Rattle.sheet.specs.Content.{Coedge, ring_points}
use Rattle.sheet.specs.Layout.{sampled, coedge_points, coedge, coedge_parts, block_size, blocks, ring, kind, head, sheet_of}
use Rattle.answers.specs.Outcome.{first}
use Rattle.sheet.specs.Checks.{block_fault, layout_checks, content_checks, coedge_total}
use Rattle.sheet.proofs.BlockOrder.{whole, head_length}
use Rattle.sheet.proofs.Blocks.{blocks_cut, blocks_length, coedge_length, parts_count, ring_length}
use Rattle.sheet.proofs.Cuts.{CutOff}
use Rattle.sheet.proofs.Checked.{checked, head_size_most}
use Rattle.sheet.proofs.Version1.{block_length}

-- ---- one byte a block, and 280 a coedge

lengths : (bs : List (List ℕ)) → All (CutOff (block_size 1)) bs → All (λ (b : List ℕ). block_fault 1 b ≡ 0) bs → length (flatten bs) ≡ length bs + 280 * coedge_total (map (ring 1) bs)
unfolding flatten coedge_total
lengths [] h e = refl
lengths (b ∷ bs) h e =
    simp length-append (omega (arith, block_length b h.0 e.0, ring_length 1 b, sum_cons (λ (r : List Coedge). length r) (ring 1 b) (map (ring 1) bs), lengths bs h.1 e.1))

pub largest : (s : List ℕ) → first (layout_checks s ++ content_checks (sheet_of s)) ≡ 0 → length s ≤ 35936
unfolding sheet_of
largest s e =
    let c = checked s e in
    let l = c.layout in
    let off : All (CutOff (block_size 1)) (blocks s) = subst (λ (v : ℕ). All (CutOff (block_size v)) (blocks s)) l.version_is (blocks_cut s l.faultless) in
    let faultless : All (λ (b : List ℕ). block_fault 1 b ≡ 0) (blocks s) = subst (λ (v : ℕ). All (λ (b : List ℕ). block_fault v b ≡ 0) (blocks s)) l.version_is l.faultless in
    let most : coedge_total (map (ring 1) (blocks s)) ≤ 128 = subst (λ (v : ℕ). coedge_total (map (ring v) (blocks s)) ≤ 128) l.version_is c.coedges_most in
    omega (arith, ap length (whole s c.reads), length-append (head s) (flatten (blocks s)), head_length s c.reads, lengths (blocks s) off faultless, blocks_length s, l.rings_most, most, head_size_most (kind s))

-- ---- the points of a ring

coedge_points_are : (p : List ℕ) → length (coedge 1 p).points ≡ sampled
unfolding coedge_points
coedge_points_are p = coedge_length 1 p

ring_points_are : (ps : List (List ℕ)) → length (ring_points (map (coedge 1) ps)) ≡ sampled * length ps
unfolding ring_points flat_map
ring_points_are [] = refl
ring_points_are (p ∷ ps) = simp length-append (omega (arith, coedge_points_are p, ring_points_are ps))

pub ring_points_least : (s : List ℕ) → first (layout_checks s ++ content_checks (sheet_of s)) ≡ 0 → All (λ (r : List Coedge). sampled ≤ length (ring_points r)) (sheet_of s).rings
unfolding sheet_of
ring_points_least s e =
    let c = checked s e in
    subst (λ (v : ℕ). All Least (map (ring v) (blocks s))) (sym c.layout.version_is) (go (blocks s) (subst (λ (v : ℕ). All Some (map (ring v) (blocks s))) c.layout.version_is c.rings_full))
  where
    Some : List Coedge → Type 0
    Some r = 1 ≤ length r

    Least : List Coedge → Type 0
    Least r = sampled ≤ length (ring_points r)

    least : (b : List ℕ) → Some (ring 1 b) → Least (ring 1 b)
    least b h = omega (arith, h, ring_points_are (coedge_parts 1 b), parts_count 1 b)

    go : (bs : List (List ℕ)) → All Some (map (ring 1) bs) → All Least (map (ring 1) bs)
    go [] h = tt
    go (b ∷ bs) h = (least b h.0, go bs h.1)
