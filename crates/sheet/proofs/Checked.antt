-- What holds of a sheet on which none of the checks 1 to 7 fails.
use mathlib.Core.Path.{◌≡◌, refl, ◌∙◌}
use mathlib.Core.Bool.{Bool, true, false, not, cond, ◌&&◌, ◌||◌, true≢false}
use mathlib.Core.List.{List, [], ◌∷◌, ◌++◌, flat_map, foldl}
use Prim.Native.Nat.{ℕ, ◌+◌, ◌*◌, ◌-◌, ◌≤◌, ◌<◌}
use native.Mathlib.Omega.{arith}
use lib.Dec.{eqb, ltb}
use lib.Ieee.{of_bits, lt, le}
use lib.Ieee.Positive.{num}
use lib.ListN.{length, length-append, length-map}
use borrow.Author.Tests.{ltb-false, eqb-true, eqb-false, not-false}
use Rattle.std.proofs.lemmas.Bool.{or_parts}
use Rattle.leaves.specs.Constants.{plus_zero, deviation_limit}
use Rattle.leaves.proofs.Folds.{All, all_append, sum_cons}
use Rattle.leaves.proofs.Magnitudes.{Most}
use Rattle.sheet.specs.Content.{Point, Coedge, Sheet, ring_points}
use Rattle.answers.specs.Limits.{beyond}
use Rattle.answers.specs.Lists.{any_of}
use Rattle.sheet.specs.Layout.{length_field, version, kind, sense, ring_count, head_size, plane, sampled, blocks, ring, sheet_of}
use Rattle.answers.specs.Outcome.{Check, first}
use Rattle.answers.proofs.AnyOf.{any_false}
use Rattle.answers.proofs.Finite.{not_beyond_most}
use Rattle.answers.proofs.FirstCheck.{Numbered, none_fails, append_none}
use Rattle.answers.proofs.Permutations.{all_weaken, all_map}
use Rattle.sheet.proofs.Blocks.{Sampled, ring_sampled, blocks_length}
use Rattle.sheet.proofs.Cuts.{neither_fault, none_faulty}
use Rattle.sheet.specs.Checks.{length_wrong, version_wrong, codes_wrong, ring_count_wrong, first_fault, block_fault, bytes_over, layout_fault, blocks_wrong, empty, coedge_total, coedges_wrong, coordinate_limit, point_wrong, coedge_wrong, ring_wrong, plane_wrong, numbers_wrong, layout_checks, content_checks}

-- ---- the table

-- what holds of the rows' numbers
pub layout_all : (P : ℕ → Type 0) (s : List ℕ) → P 1 × P 2 × P 3 × P 4 × P 5 → All (λ (c : Check). P c.number) (layout_checks s)
unfolding layout_checks
layout_all P s h = (h.0, (h.1, (h.2, (h.3, (h.4, tt)))))

pub content_all : (P : ℕ → Type 0) (s : Sheet) → P 6 × P 7 → All (λ (c : Check). P c.number) (content_checks s)
unfolding content_checks
content_all P s h = (h.0, (h.1, tt))

pub layout_numbered : (s : List ℕ) → Numbered (layout_checks s)
layout_numbered s = layout_all (λ (n : ℕ). 0 < n) s (omega arith)

pub content_numbered : (s : Sheet) → Numbered (content_checks s)
content_numbered s = content_all (λ (n : ℕ). 0 < n) s (omega arith)

pub sheet_numbered : (s : List ℕ) → Numbered (layout_checks s ++ content_checks (sheet_of s))
sheet_numbered s = all_append (λ (c : Check). 0 < c.number) (layout_checks s) (content_checks (sheet_of s)) (layout_numbered s) (content_numbered (sheet_of s))

pub table : (s : List ℕ) → first (layout_checks s ++ content_checks (sheet_of s)) ≡ cond (length_wrong s) 1 (cond (version_wrong s) 2 (cond (codes_wrong (kind s) (sense s)) 3 (cond (ring_count_wrong (kind s) (ring_count s)) 4 (cond (blocks_wrong s) 5 (cond (coedges_wrong (sheet_of s).rings) 6 (cond (plane_wrong (plane s) || any_of ring_wrong (sheet_of s).rings) 7 0))))))
unfolding first layout_checks content_checks sheet_of numbers_wrong
table s = refl

-- ---- a layout that reads: the checks down to 5 pass

pub record Laid (s : List ℕ) : Type 0 where
  pub length_right : length_wrong s ≡ false
  pub version_right : version_wrong s ≡ false
  pub codes_right : codes_wrong (kind s) (sense s) ≡ false
  pub count_right : ring_count_wrong (kind s) (ring_count s) ≡ false
  pub blocks_right : blocks_wrong s ≡ false
  pub long : 8 ≤ length s
  pub length_is : length_field s ≡ length s - 4
  pub version_is : version s ≡ 1
  pub kind_most : kind s ≤ 6
  pub sense_most : sense s ≤ 2
  pub rings_least : 1 ≤ ring_count s
  pub rings_most : ring_count s ≤ 16
  pub head_fits : head_size (kind s) ≤ length s
  pub faultless : All (λ (b : List ℕ). block_fault (version s) b ≡ 0) (blocks s)
  pub none_over : bytes_over s ≡ false

pub head_size_most : (k : ℕ) → head_size k ≤ 80
unfolding head_size
head_size_most k = go (eqb k 0)
  where
    go : (b : Bool) → cond b 80 8 ≤ 80
    go true = omega arith
    go false = omega arith

length_right_lem : (s : List ℕ) → length_wrong s ≡ false → (8 ≤ length s) × (length_field s ≡ length s - 4)
unfolding length_wrong
length_right_lem s e =
    let p = or_parts (ltb (length s) 8) (not (eqb (length_field s) (length s - 4))) e in
    (ltb-false (length s) 8 p.0, eqb-true (length_field s) (length s - 4) (not-false (eqb (length_field s) (length s - 4)) p.1))

version_right_lem : (s : List ℕ) → version_wrong s ≡ false → version s ≡ 1
unfolding version_wrong
version_right_lem s e = eqb-true (version s) 1 (not-false (eqb (version s) 1) e)

codes_right_lem : (s : List ℕ) → codes_wrong (kind s) (sense s) ≡ false → (kind s ≤ 6) × (sense s ≤ 2)
unfolding codes_wrong
codes_right_lem s e =
    let p = or_parts (ltb 6 (kind s)) (ltb 2 (sense s)) e in
    (ltb-false 6 (kind s) p.0, ltb-false 2 (sense s) p.1)

count_right_lem : (s : List ℕ) → ring_count_wrong (kind s) (ring_count s) ≡ false → (1 ≤ ring_count s) × (ring_count s ≤ 16)
unfolding ring_count_wrong
count_right_lem s e =
    let p = or_parts (eqb (ring_count s) 0) (ltb 16 (ring_count s)) e in
    let some = eqb-false (ring_count s) 0 p.0 in
    (omega arith, ltb-false 16 (ring_count s) p.1)

blocks_right_lem : (s : List ℕ) → blocks_wrong s ≡ false → (head_size (kind s) ≤ length s) × All (λ (b : List ℕ). block_fault (version s) b ≡ 0) (blocks s) × (bytes_over s ≡ false)
unfolding blocks_wrong layout_fault
blocks_right_lem s e = by (ltb (length s) (head_size (kind s))) refl (bytes_over s) refl (eqb-true _ _ (not-false _ e))
  where
    faults : ℕ
    faults = first_fault (block_fault (version s)) (blocks s)

    by : (a : Bool) → ltb (length s) (head_size (kind s)) ≡ a → (b : Bool) → bytes_over s ≡ b → cond a 5 (cond (eqb faults 0) (cond b 5 0) faults) ≡ 0
        → (head_size (kind s) ≤ length s) × All (λ (b : List ℕ). block_fault (version s) b ≡ 0) (blocks s) × (bytes_over s ≡ false)
    by true h b i e = absurd (omega (arith, e))
    by false h true i e = let none : 5 ≡ 0 = (neither_fault faults 5 e).1 in absurd (omega (arith, none))
    by false h false i e = (ltb-false _ _ h, none_faulty (block_fault (version s)) (blocks s) (neither_fault faults 0 e).0, i)

pub laid : (s : List ℕ) → first (layout_checks s) ≡ 0 → Laid s
unfolding layout_checks
laid s e =
    let p = none_fails (layout_checks s) (layout_numbered s) e in
    let lengths = length_right_lem s p.0 in
    let codes = codes_right_lem s p.1.1.0 in
    let counts = count_right_lem s p.1.1.1.0 in
    let fills = blocks_right_lem s p.1.1.1.1.0 in
    record {
      length_right = p.0;
      version_right = p.1.0;
      codes_right = p.1.1.0;
      count_right = p.1.1.1.0;
      blocks_right = p.1.1.1.1.0;
      long = lengths.0;
      length_is = lengths.1;
      version_is = version_right_lem s p.1.0;
      kind_most = codes.0;
      sense_most = codes.1;
      rings_least = counts.0;
      rings_most = counts.1;
      head_fits = fills.0;
      faultless = fills.1;
      none_over = fills.2;
    }

-- ---- how many points there are: each coedge has two at least, and not too many

abbrev pub points_of : List (List Coedge) → ℕ
points_of rings = foldl (λ (n : ℕ) (r : List Coedge). n + length (ring_points r)) 0 rings

rings_sampled : (s : List ℕ) → All (λ (b : List ℕ). block_fault (version s) b ≡ 0) (blocks s) → All (All Sampled) (sheet_of s).rings
unfolding sheet_of
rings_sampled s h = all_map (All Sampled) (ring (version s)) (blocks s) (all_weaken (λ (b : List ℕ). block_fault (version s) b ≡ 0) (λ (b : List ℕ). All Sampled (ring (version s) b)) (ring_sampled (version s)) (blocks s) h)

ring_between : (r : List Coedge) → All Sampled r → (2 * length r ≤ length (ring_points r)) × (length (ring_points r) ≤ sampled * length r)
unfolding ring_points flat_map
ring_between [] h = (omega arith, omega arith)
ring_between (c ∷ cs) h =
    let all = length-append c.points (ring_points cs) in
    let later = ring_between cs h.1 in
    (omega (arith, all, later.0, h.0.0), omega (arith, all, later.1, h.0.1))

points_between : (rings : List (List Coedge)) → All (All Sampled) rings → (2 * coedge_total rings ≤ points_of rings) × (points_of rings ≤ sampled * coedge_total rings)
unfolding coedge_total
points_between [] h = (omega arith, omega arith)
points_between (r ∷ rs) h =
    let coedges = sum_cons (λ (r : List Coedge). length r) r rs in
    let points = sum_cons (λ (r : List Coedge). length (ring_points r)) r rs in
    let own = ring_between r h.0 in
    let later = points_between rs h.1 in
    (omega (arith, coedges, points, own.0, later.0), omega (arith, coedges, points, own.1, later.1))

-- rings with a coedge each have one
some_coedge : (rings : List (List Coedge)) → 1 ≤ length rings → All (λ (r : List Coedge). 1 ≤ length r) rings → 1 ≤ coedge_total rings
unfolding coedge_total
some_coedge [] l h = absurd (omega arith)
some_coedge (r ∷ rs) l h = omega (arith, sum_cons (λ (r : List Coedge). length r) r rs, h.0)

-- as many rings as the sheet's ring count says
pub ring_number : (s : List ℕ) → length (sheet_of s).rings ≡ ring_count s
unfolding sheet_of
ring_number s = length-map (blocks s) (ring (version s)) ∙ blocks_length s

-- ---- a sheet that passes: the checks down to 7

pub record Checked (s : List ℕ) : Type 0 where
  pub reads : first (layout_checks s) ≡ 0
  pub layout : Laid s
  pub coedges_right : coedges_wrong (sheet_of s).rings ≡ false
  pub numbers_right : numbers_wrong (sheet_of s) ≡ false
  pub rings_full : All (λ (r : List Coedge). 1 ≤ length r) (sheet_of s).rings
  pub coedges_most : coedge_total (sheet_of s).rings ≤ 128
  pub plane_right : plane_wrong (sheet_of s).plane ≡ false
  pub rings_right : All (λ (r : List Coedge). ring_wrong r ≡ false) (sheet_of s).rings
  -- how many points the rings have together
  pub points_least : 1 ≤ points_of (sheet_of s).rings
  pub points_most : points_of (sheet_of s).rings ≤ 2176

full : (rings : List (List Coedge)) → All (λ (r : List Coedge). empty r ≡ false) rings → All (λ (r : List Coedge). 1 ≤ length r) rings
unfolding empty
full [] h = tt
full ([] ∷ rs) h = absurd (true≢false h.0)
full ((c ∷ cs) ∷ rs) h = (omega arith, full rs h.1)

pub coedges_right_lem : (rings : List (List Coedge)) → coedges_wrong rings ≡ false → All (λ (r : List Coedge). 1 ≤ length r) rings × (coedge_total rings ≤ 128)
unfolding coedges_wrong
coedges_right_lem rings e =
    let p = or_parts (any_of empty rings) (ltb 128 (coedge_total rings)) e in
    (full rings (any_false empty rings p.0), ltb-false 128 (coedge_total rings) p.1)

pub numbers_right_lem : (s : Sheet) → numbers_wrong s ≡ false → (plane_wrong s.plane ≡ false) × All (λ (r : List Coedge). ring_wrong r ≡ false) s.rings
unfolding numbers_wrong
numbers_right_lem s e =
    let p = or_parts (plane_wrong s.plane) (any_of ring_wrong s.rings) e in
    (p.0, any_false ring_wrong s.rings p.1)

pub checked : (s : List ℕ) → first (layout_checks s ++ content_checks (sheet_of s)) ≡ 0 → Checked s
unfolding content_checks
checked s e =
    let xs = layout_checks s in
    let ys = content_checks (sheet_of s) in
    let parts = append_none xs ys (layout_numbered s) e in
    let p = none_fails ys (content_numbered (sheet_of s)) parts.1 in
    let counts = coedges_right_lem (sheet_of s).rings p.0 in
    let numbers = numbers_right_lem (sheet_of s) p.1.0 in
    let layout = laid s parts.0 in
    let between = points_between (sheet_of s).rings (rings_sampled s layout.faultless) in
    let some = some_coedge (sheet_of s).rings (omega (arith, ring_number s, layout.rings_least)) counts.0 in
    record {
      reads = parts.0;
      layout = layout;
      coedges_right = p.0;
      numbers_right = p.1.0;
      rings_full = counts.0;
      coedges_most = counts.1;
      plane_right = numbers.0;
      rings_right = numbers.1;
      points_least = omega (arith, between.0, some);
      points_most = omega (arith, between.1, counts.1);
    }

-- ---- the points of a ring that passes check 7

-- the limit of a coordinate, as the whole number that it is
abbrev pub coordinate_most : ℕ
coordinate_most = num coordinate_limit

limit_most : Most coordinate_most coordinate_limit
unfolding of_bits
limit_most = omega arith

-- neither coordinate is larger than n
abbrev pub MostPoint : ℕ → Point → Type 0
MostPoint n p = Most n p.u × Most n p.v

point_most : (p : Point) → point_wrong p ≡ false → MostPoint coordinate_most p
unfolding point_wrong
point_most p e =
    let q = or_parts (beyond coordinate_limit p.u) (beyond coordinate_limit p.v) e in
    (not_beyond_most coordinate_most coordinate_limit p.u limit_most q.0, not_beyond_most coordinate_most coordinate_limit p.v limit_most q.1)

coedge_most : (c : Coedge) → coedge_wrong c ≡ false → All (MostPoint coordinate_most) c.points
unfolding coedge_wrong
coedge_most c e =
    let p = or_parts (not (le plus_zero c.deviation && lt c.deviation deviation_limit)) (any_of point_wrong c.points) e in
    all_weaken (λ (p : Point). point_wrong p ≡ false) (MostPoint coordinate_most) point_most c.points (any_false point_wrong c.points p.1)

pub ring_most : (r : List Coedge) → ring_wrong r ≡ false → All (MostPoint coordinate_most) (ring_points r)
unfolding ring_wrong ring_points flat_map
ring_most r e = go r (any_false coedge_wrong r e)
  where
    go : (cs : List Coedge) → All (λ (c : Coedge). coedge_wrong c ≡ false) cs → All (MostPoint coordinate_most) (ring_points cs)
    go [] h = tt
    go (c ∷ cs) h = all_append (MostPoint coordinate_most) c.points (ring_points cs) (coedge_most c h.0) (go cs h.1)
