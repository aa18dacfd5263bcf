-- The ring blocks and the coedges in them, of either version. A coedge and a block without a fault are cut off whatever
-- stands behind them. A ring has as many coedges as its block's first byte says.
use mathlib.Core.Path.{◌≡◌, refl, sym, ap, ap₂, ◌∙◌}
use mathlib.Core.Bool.{Bool, true, false, cond, ◌||◌}
use mathlib.Core.List.{List, [], ◌∷◌, ◌++◌, map, flatten, flat_map, append_assoc}
use Prim.Native.Nat.{ℕ, zero, suc, ◌+◌, ◌*◌, ◌≤◌}
use native.Mathlib.Omega.{arith}
use lib.Dec.{eqb, ltb}
use lib.ListN.{length, get_or, take, drop, take-append-drop, length-append, length-drop, length-take, length-map, get_or-append}
use lib.Seq.{drop-append-le}
use borrow.Author.Tests.{ltb-false, eqb-false}
use Rattle.leaves.proofs.Folds.{All}
use Rattle.sheet.specs.Content.{Coedge, ring_points}
use Rattle.sheet.specs.Layout.{version, kind, ring_count, head_size, cut, sampled, coedge_points, coedge_head, coedge_size, points, coedge, coedge_parts, ring, block_size, blocks}
use Rattle.sheet.specs.Checks.{first_fault, coedge_fault, block_fault}
use Rattle.sheet.proofs.Cuts.{cut_length, behind, cut_whole, CutOff, cut_back, faultless_cut, none_faulty}

-- ---- coedges

-- the byte behind the deviation tells, where it is there
same_points : (v : ℕ) (x y : List ℕ) → coedge_head v ≤ length x → coedge_points v (x ++ y) ≡ coedge_points v x
unfolding coedge_points coedge_head
same_points v x y h = by (eqb v 2) h
  where
    by : (b : Bool) → cond b 9 8 ≤ length x → cond b (get_or (x ++ y) 8 0) sampled ≡ cond b (get_or x 8 0) sampled
    by true h = get_or-append x y 0 8 (omega arith)
    by false h = refl

same_coedge : (v : ℕ) (x y : List ℕ) → coedge_head v ≤ length x → coedge_size v (x ++ y) ≡ coedge_size v x
unfolding coedge_size
same_coedge v x y h = ap (λ (n : ℕ). coedge_head v + 16 * n) (same_points v x y h)

-- a coedge without a fault is there, and has two points or more and not too many
pub record Whole (v : ℕ) (p : List ℕ) : Type 0 where
  pub head : coedge_head v ≤ length p
  pub least : 2 ≤ coedge_points v p
  pub most : coedge_points v p ≤ sampled
  pub there : coedge_size v p ≤ length p

pub whole_coedge : (v : ℕ) (p : List ℕ) → coedge_fault v p ≡ 0 → Whole v p
unfolding coedge_fault
whole_coedge v p e = by (ltb (length p) (coedge_head v)) refl (ltb (coedge_points v p) 2) refl (ltb sampled (coedge_points v p)) refl (ltb (length p) (coedge_size v p)) refl e
  where
    by : (a : Bool) → ltb (length p) (coedge_head v) ≡ a → (b : Bool) → ltb (coedge_points v p) 2 ≡ b → (c : Bool) → ltb sampled (coedge_points v p) ≡ c → (d : Bool) → ltb (length p) (coedge_size v p) ≡ d
        → ◌≡◌ {A = ℕ} (cond a 5 (cond (b || c) 27 (cond d 5 0))) 0 → Whole v p
    by true _ b _ c _ d _ e = absurd (omega (arith, e))
    by false _ true _ c _ d _ e = absurd (omega (arith, e))
    by false _ false _ true _ d _ e = absurd (omega (arith, e))
    by false _ false _ false _ true _ e = absurd (omega (arith, e))
    by false h false i false j false k e = record { head = ltb-false _ _ h; least = ltb-false _ _ i; most = ltb-false _ _ j; there = ltb-false _ _ k }

coedge_cut : (v : ℕ) (s : List ℕ) → coedge_fault v (take (coedge_size v s) s) ≡ 0 → CutOff (coedge_size v) (take (coedge_size v s) s)
coedge_cut v s e rest =
    let k = coedge_size v s in
    let p = take k s in
    let w = whole_coedge v p e in
    let own : k ≡ coedge_size v p = ap (coedge_size v) (sym (take-append-drop k s)) ∙ same_coedge v p (drop k s) w.head in
    same_coedge v p rest w.head ∙ omega (arith, own, w.there, length-take k s)

-- ---- a block without a fault

module _ (v : ℕ) (b : List ℕ) (e : block_fault v b ≡ 0) where
  block_some : 1 ≤ length b
  unfolding block_fault
  block_some = by (eqb (length b) 0) refl e
    where
      by : (a : Bool) → eqb (length b) 0 ≡ a → cond a 5 (first_fault (coedge_fault v) (coedge_parts v b)) ≡ 0 → 1 ≤ length b
      by true h e = absurd (omega (arith, e))
      by false h e = let some = eqb-false (length b) 0 h in omega arith

  pub coedges_faultless : All (λ (p : List ℕ). coedge_fault v p ≡ 0) (coedge_parts v b)
  unfolding block_fault
  coedges_faultless = by (eqb (length b) 0) e
    where
      by : (a : Bool) → cond a 5 (first_fault (coedge_fault v) (coedge_parts v b)) ≡ 0 → All (λ (p : List ℕ). coedge_fault v p ≡ 0) (coedge_parts v b)
      by true e = absurd (omega (arith, e))
      by false e = none_faulty (coedge_fault v) (coedge_parts v b) e

  -- its coedges are the same, whatever stands behind it
  front_parts : (rest : List ℕ) → coedge_parts v (b ++ rest) ≡ coedge_parts v b
  unfolding coedge_parts
  front_parts rest =
      let size = coedge_size v in
      let n = get_or b 0 0 in
      let ps = cut size n (drop 1 b) in
      let off : All (CutOff size) ps = faultless_cut size (coedge_fault v) (coedge_cut v) n (drop 1 b) coedges_faultless in
      let bytes : drop 1 b ++ rest ≡ flatten ps ++ (behind size n (drop 1 b) ++ rest) =
      ap (λ (l : List ℕ). l ++ rest) (sym (cut_whole size n (drop 1 b))) ∙ append_assoc (flatten ps) (behind size n (drop 1 b)) rest in
      ap₂ (cut size) (get_or-append b rest 0 0 block_some ∙ sym (cut_length size n (drop 1 b))) (drop-append-le 1 b rest block_some ∙ bytes)
      ∙ cut_back size ps off (behind size n (drop 1 b) ++ rest)

  same_size : (rest : List ℕ) → block_size v (b ++ rest) ≡ block_size v b
  unfolding block_size
  same_size rest = ap (λ (ps : List (List ℕ)). 1 + length (flatten ps)) (front_parts rest)

parts_within : (v : ℕ) (b : List ℕ) → length (flatten (coedge_parts v b)) ≤ length (drop 1 b)
unfolding coedge_parts
parts_within v b = omega (arith, ap length (cut_whole (coedge_size v) (get_or b 0 0) (drop 1 b)), length-append (flatten (cut (coedge_size v) (get_or b 0 0) (drop 1 b))) (behind (coedge_size v) (get_or b 0 0) (drop 1 b)))

block_within : (v : ℕ) (b : List ℕ) → 1 ≤ length b → block_size v b ≤ length b
unfolding block_size
block_within v b h = omega (arith, parts_within v b, length-drop 1 b)

pub block_most : (v : ℕ) (s : List ℕ) → block_size v s ≤ 1 + length s
unfolding block_size
block_most v s = omega (arith, parts_within v s, length-drop 1 s)

block_cut : (v : ℕ) (s : List ℕ) → block_fault v (take (block_size v s) s) ≡ 0 → CutOff (block_size v) (take (block_size v s) s)
block_cut v s e rest =
    let k = block_size v s in
    let b = take k s in
    let own : k ≡ block_size v b = ap (block_size v) (sym (take-append-drop k s)) ∙ same_size v b e (drop k s) in
    same_size v b e rest ∙ omega (arith, own, block_within v b (block_some v b e), length-take k s)

-- ---- the blocks of a sheet

pub blocks_cut : (s : List ℕ) → All (λ (b : List ℕ). block_fault (version s) b ≡ 0) (blocks s) → All (CutOff (block_size (version s))) (blocks s)
unfolding blocks
blocks_cut s h = faultless_cut (block_size (version s)) (block_fault (version s)) (block_cut (version s)) (ring_count s) (drop (head_size (kind s)) s) h

pub blocks_length : (s : List ℕ) → length (blocks s) ≡ ring_count s
unfolding blocks
blocks_length s = cut_length (block_size (version s)) (ring_count s) (drop (head_size (kind s)) s)

pub blocks_whole : (s : List ℕ) → flatten (blocks s) ++ behind (block_size (version s)) (ring_count s) (drop (head_size (kind s)) s) ≡ drop (head_size (kind s)) s
unfolding blocks
blocks_whole s = cut_whole (block_size (version s)) (ring_count s) (drop (head_size (kind s)) s)

-- ---- the ring in a block

pub parts_count : (v : ℕ) (b : List ℕ) → length (ring v b) ≡ length (coedge_parts v b)
unfolding ring
parts_count v b = length-map (coedge_parts v b) (coedge v)

pub ring_length : (v : ℕ) (b : List ℕ) → length (ring v b) ≡ get_or b 0 0
unfolding coedge_parts
ring_length v b = parts_count v b ∙ cut_length (coedge_size v) (get_or b 0 0) (drop 1 b)

points_length : (n : ℕ) (s : List ℕ) → length (points n s) ≡ n
unfolding points
points_length zero s = refl
points_length (suc n) s = ap suc (points_length n (drop 16 s))

pub coedge_length : (v : ℕ) (p : List ℕ) → length (coedge v p).points ≡ coedge_points v p
unfolding coedge
coedge_length v p = points_length (coedge_points v p) (drop (coedge_head v) p)

-- of a block without a fault each coedge has two points at least, and not too many
abbrev pub Sampled : Coedge → Type 0
Sampled c = (2 ≤ length c.points) × (length c.points ≤ sampled)

pub ring_sampled : (v : ℕ) (b : List ℕ) → block_fault v b ≡ 0 → All Sampled (ring v b)
unfolding ring
ring_sampled v b e = go (coedge_parts v b) (coedges_faultless v b e)
  where
    go : (ps : List (List ℕ)) → All (λ (p : List ℕ). coedge_fault v p ≡ 0) ps → All Sampled (map (coedge v) ps)
    go [] h = tt
    go (p ∷ ps) h =
        let w = whole_coedge v p h.0 in
        ((omega (arith, coedge_length v p, w.least), omega (arith, coedge_length v p, w.most)), go ps h.1)

pub points_next : {rs cs : List Coedge} {c : Coedge} → rs ≡ c ∷ cs → length (ring_points rs) ≡ length c.points + length (ring_points cs)
unfolding ring_points flat_map
points_next {cs = cs} {c = c} e = rw e (length-append c.points (ring_points cs))
