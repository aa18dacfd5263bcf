-- "Version 1 sheets are read as before": the layout over a version, on a sheet whose version byte is 1, is the layout
-- of 280 bytes and 17 points a coedge, and check 5 is that its blocks fill the sheet.
use mathlib.Core.Path.{◌≡◌, refl, sym, ap, ap₂, ◌∙◌}
use mathlib.Core.Logic.{inl, inr}
use mathlib.Core.Bool.{Bool, true, false, not, cond}
use mathlib.Core.List.{List, [], ◌∷◌, ◌++◌, map, flatten, append-nil}
use Prim.Native.Nat.{ℕ, zero, suc, ◌+◌, ◌-◌, ◌*◌, ◌≤◌, ◌<◌}
use native.Mathlib.Omega.{arith}
use lib.Dec.{eqb, leb, ltb}
use lib.Ieee.{Float}
use lib.ListN.{length, get_or, take, drop, length-append, length-take, length-drop, drop_of_length-le}
use lib.Seq.{take-take, get_or-take}
use borrow.Author.Tests.{eq-eqb, ne_eqb, le-leb, lt-leb, le-ltb, lt-ltb}
use Rattle.std.proofs.lemmas.Bool.{cases_lt}
use Rattle.std.proofs.lemmas.List.{drop-take, take_all}
use Rattle.answers.specs.Outcome.{Check, first}
use Rattle.sheet.specs.Content.{Point, point, Coedge, Sheet}
use Rattle.sheet.specs.Layout.{big, number_of, number, version, kind, sense, ring_count, head_size, head, plane, cut, sampled, points, coedge, coedge_points, coedge_head, coedge_size, coedge_parts, ring, block_size, blocks, sheet_of}
use Rattle.sheet.specs.Checks.{first_fault, coedge_fault, block_fault, bytes_over, layout_fault, version_wrong, blocks_wrong, layout_checks, content_checks}
use Rattle.sheet.specs.Version1 as v1
use Rattle.sheet.proofs.Bytes.{number_whole}
use Rattle.sheet.proofs.Cuts.{CutOff}
use Rattle.sheet.proofs.Walks.{layout_short}

-- ---- a number and points are the same in a part of the bytes that holds all of them

part_behind : (n w : ℕ) (s : List ℕ) → n ≤ w → drop n (take w s) ≡ take (w - n) (drop n s)
part_behind n w s h = let whole : n + (w - n) ≡ w = omega arith in ap (λ (i : ℕ). drop n (take i s)) (sym whole) ∙ drop-take n (w - n) s

number_part : (w : ℕ) (s : List ℕ) → 8 ≤ w → number (take w s) ≡ number s
number_part w s h =
    elim (cases_lt (length s) 8) [
      | inl short ↦ ap number (take_all w s (omega arith))
      | inr long ↦
          let held : 8 ≤ length (take w s) = omega (arith, length-take w s) in
          number_whole (take w s) held ∙ ap (λ (l : List ℕ). number_of (big l)) (take-take 8 w s h) ∙ sym (number_whole s long)
    ]

points_part : (n w : ℕ) (s : List ℕ) → 16 * n ≤ w → points n (take w s) ≡ points n s
unfolding points
points_part zero w s h = refl
points_part (suc n) w s h =
    ap₂ (λ (p : Point) (ps : List Point). p ∷ ps)
    (ap₂ point (number_part w s (omega arith)) (ap number (part_behind 8 w s (omega arith)) ∙ number_part (w - 8) (drop 8 s) (omega arith)))
    (ap (points n) (part_behind 16 w s (omega arith)) ∙ points_part n (w - 16) (drop 16 s) (omega arith))

-- ---- the coedges

size_is : (s : List ℕ) → coedge_size 1 s ≡ 280
unfolding coedge_size coedge_head coedge_points
size_is s = refl

coedge_is : (s : List ℕ) → coedge 1 (take 280 s) ≡ v1.coedge s
unfolding coedge coedge_head coedge_points v1.coedge
coedge_is s =
    ap₂ (λ (d : Float) (ps : List Point). record { deviation = d; points = ps })
    (number_part 280 s (omega arith))
    (ap (points sampled) (part_behind 8 280 s (omega arith)) ∙ points_part sampled 272 (drop 8 s) (omega arith))

coedges_are : (n : ℕ) (s : List ℕ) → map (coedge 1) (cut (coedge_size 1) n s) ≡ v1.coedges n s
unfolding cut v1.coedges
coedges_are zero s = refl
coedges_are (suc n) s =
    ap₂ (λ (c : Coedge) (cs : List Coedge). c ∷ cs)
    (ap (λ (k : ℕ). coedge 1 (take k s)) (size_is s) ∙ coedge_is s)
    (ap (λ (k : ℕ). map (coedge 1) (cut (coedge_size 1) n (drop k s))) (size_is s) ∙ coedges_are n (drop 280 s))

ring_is : (b : List ℕ) → ring 1 b ≡ v1.ring b
unfolding ring coedge_parts v1.ring
ring_is b = coedges_are (get_or b 0 0) (drop 1 b)

-- ---- the blocks

parts_length : (n : ℕ) (s : List ℕ) → length (flatten (cut (coedge_size 1) n s)) ≡ length (take (280 * n) s)
unfolding cut flatten
parts_length zero s = refl
parts_length (suc n) s =
    let k = coedge_size 1 s in
    omega (arith, size_is s, length-append (take k s) (flatten (cut (coedge_size 1) n (drop k s))), parts_length n (drop k s), length-take k s, length-take (280 * n) (drop k s), length-drop k s, length-take (280 * suc n) s)

block_size_is : (s : List ℕ) → block_size 1 s ≡ 1 + length (take (280 * get_or s 0 0) (drop 1 s))
unfolding block_size coedge_parts
block_size_is s = ap (λ (n : ℕ). 1 + n) (parts_length (get_or s 0 0) (drop 1 s))

whole_size : (s : List ℕ) → v1.block_size s ≤ length s → block_size 1 s ≡ v1.block_size s
unfolding v1.block_size
whole_size s h = omega (arith, h, block_size_is s, length-take (280 * get_or s 0 0) (drop 1 s), length-drop 1 s)

short_size : (s : List ℕ) → length s < v1.block_size s → length s ≤ block_size 1 s
unfolding v1.block_size
short_size s h = omega (arith, h, block_size_is s, length-take (280 * get_or s 0 0) (drop 1 s), length-drop 1 s)

-- either size takes the same bytes, and leaves the same
same_cut : (s : List ℕ) → (take (block_size 1 s) s ≡ take (v1.block_size s) s) × (drop (block_size 1 s) s ≡ drop (v1.block_size s) s)
same_cut s =
    elim (cases_lt (length s) (v1.block_size s)) [
      | inl short ↦
          let all = short_size s short in
          (take_all (block_size 1 s) s all ∙ sym (take_all (v1.block_size s) s (omega arith)), drop_of_length-le s all ∙ sym (drop_of_length-le s (omega arith)))
      | inr long ↦ let e = whole_size s long in (ap (λ (k : ℕ). take k s) e, ap (λ (k : ℕ). drop k s) e)
    ]

cut_is : (n : ℕ) (s : List ℕ) → cut (block_size 1) n s ≡ v1.cut n s
unfolding cut v1.cut
cut_is zero s = refl
cut_is (suc n) s =
    ap₂ (λ (b : List ℕ) (bs : List (List ℕ)). b ∷ bs) (same_cut s).0 (ap (cut (block_size 1) n) (same_cut s).1 ∙ cut_is n (drop (v1.block_size s) s))

-- ---- check 5

-- a test of two numbers is that of two others, if they lie as far apart
same_leb : (a b c d : ℕ) → a + d ≡ b + c → leb a b ≡ leb c d
same_leb a b c d e =
    elim (cases_lt b a) [
      | inl less ↦ lt-leb a b less ∙ sym (lt-leb c d (omega arith))
      | inr most ↦ le-leb a b most ∙ sym (le-leb c d (omega arith))
    ]

same_ltb : (a b c d : ℕ) → a + d ≡ b + c → ltb a b ≡ ltb c d
same_ltb a b c d e =
    elim (cases_lt a b) [
      | inl less ↦ lt-ltb a b less ∙ sym (lt-ltb c d (omega arith))
      | inr most ↦ le-ltb a b most ∙ sym (le-ltb c d (omega arith))
    ]

-- a coedge has a fault where it is cut short, and only there
coedge_whole : (s : List ℕ) → 280 ≤ length s → coedge_fault 1 (take (coedge_size 1 s) s) ≡ 0
unfolding coedge_fault coedge_head coedge_points coedge_size
coedge_whole s h =
    let p = take 280 s in
    let l = length-take 280 s in
    rw (le-ltb (length p) 8 (omega arith), le-ltb (length p) 280 (omega arith))

coedge_short : (s : List ℕ) → length s < 280 → coedge_fault 1 (take (coedge_size 1 s) s) ≡ 5
unfolding coedge_fault coedge_head coedge_points coedge_size
coedge_short s h =
    let p = take 280 s in
    let l = length-take 280 s in
    rw (lt-ltb (length p) 280 (omega arith)) (by (ltb (length p) 8))
  where
    by : (b : Bool) → ◌≡◌ {A = ℕ} (cond b 5 5) 5
    by true = refl
    by false = refl

coedges_faults : (n : ℕ) (s : List ℕ) → first_fault (coedge_fault 1) (cut (coedge_size 1) n s) ≡ cond (leb (280 * n) (length s)) 0 5
unfolding first_fault cut
coedges_faults zero s = rw (le-leb (280 * 0) (length s) (omega arith))
coedges_faults (suc n) s =
    let k = coedge_size 1 s in
    elim (cases_lt (length s) 280) [
      | inl short ↦ rw (coedge_short s short, lt-leb (280 * suc n) (length s) (omega arith))
      | inr long ↦
          rw (coedge_whole s long) (coedges_faults n (drop k s) ∙ ap (λ (b : Bool). cond b 0 5) (same_leb (280 * n) (length (drop k s)) (280 * suc n) (length s) (omega (arith, size_is s, length-drop k s))))
    ]

-- a block has one where its coedges do not fill it, and only there
block_faults : (b : List ℕ) → block_fault 1 b ≡ cond (leb (v1.block_size b) (length b)) 0 5
unfolding block_fault coedge_parts v1.block_size
block_faults b =
    let n = get_or b 0 0 in
    elim (cases_lt 0 (length b)) [
      | inl some ↦
          rw (ne_eqb (length b) 0 (λ z. omega arith))
          (coedges_faults n (drop 1 b) ∙ ap (λ (t : Bool). cond t 0 5) (same_leb (280 * n) (length (drop 1 b)) (1 + 280 * n) (length b) (omega (arith, some, length-drop 1 b))))
      | inr none ↦ rw (eq-eqb (length b) 0 (omega arith), lt-leb (1 + 280 * n) (length b) (omega arith))
    ]

first_byte : (s : List ℕ) → get_or (take (block_size 1 s) s) 0 0 ≡ get_or s 0 0
first_byte s = get_or-take (block_size 1 s) s 0 0 (omega (arith, block_size_is s))

taken_faults : (s : List ℕ) → block_fault 1 (take (block_size 1 s) s) ≡ cond (leb (v1.block_size s) (length s)) 0 5
unfolding v1.block_size
taken_faults s =
    let b = take (block_size 1 s) s in
    let same = ap (λ (n : ℕ). 1 + 280 * n) (first_byte s) in
    let l = length-take (block_size 1 s) s in
    block_faults b
    ∙ ap (λ (t : Bool). cond t 0 5)
    (elim (cases_lt (length s) (v1.block_size s)) [
      | inl short ↦ lt-leb (v1.block_size b) (length b) (omega (arith, same, short, l)) ∙ sym (lt-leb (v1.block_size s) (length s) short)
      | inr long ↦ le-leb (v1.block_size b) (length b) (omega (arith, same, long, l, whole_size s long)) ∙ sym (le-leb (v1.block_size s) (length s) long)
    ])

-- n blocks from s on: their first fault, then bytes behind them
walked : ℕ → List ℕ → ℕ
walked n s =
    let bs = cut (block_size 1) n s in
    cond (eqb (first_fault (block_fault 1) bs) 0) (cond (ltb (length (flatten bs)) (length s)) 5 0) (first_fault (block_fault 1) bs)

walked_is : (n : ℕ) (s : List ℕ) → walked n s ≡ cond (v1.fill n s) 0 5
unfolding walked cut first_fault flatten v1.fill
walked_is zero s =
    elim (cases_lt 0 (length s)) [
      | inl some ↦ rw (lt-ltb 0 (length s) some, ne_eqb (length s) 0 (λ z. omega arith))
      | inr none ↦ rw (le-ltb 0 (length s) none, eq-eqb (length s) 0 (omega arith))
    ]
walked_is (suc n) s =
    elim (cases_lt (length s) (v1.block_size s)) [
      | inl short ↦ rw (taken_faults s, lt-leb (v1.block_size s) (length s) short)
      | inr long ↦
          let k = block_size 1 s in
          let bs = cut (block_size 1) n (drop k s) in
          let over = same_ltb (length (take k s ++ flatten bs)) (length s) (length (flatten bs)) (length (drop k s)) (omega (arith, length-append (take k s) (flatten bs), length-take k s, length-drop k s, whole_size s long, long)) in
          rw (taken_faults s, le-leb (v1.block_size s) (length s) long, over) (walked_is n (drop k s) ∙ ap (λ (l : List ℕ). cond (v1.fill n l) 0 5) (same_cut s).1)
    ]

-- ---- the whole

module _ (s : List ℕ) (is : version s ≡ 1) where
  pub blocks_are : blocks s ≡ v1.blocks s
  unfolding blocks v1.blocks
  blocks_are = ap (λ (v : ℕ). cut (block_size v) (ring_count s) (drop (head_size (kind s)) s)) is ∙ cut_is (ring_count s) (drop (head_size (kind s)) s)

  rings_are : map (ring (version s)) (blocks s) ≡ map v1.ring (v1.blocks s)
  rings_are = ap (λ (v : ℕ). map (ring v) (blocks s)) is ∙ go (blocks s) ∙ ap (map v1.ring) blocks_are
    where
      go : (bs : List (List ℕ)) → map (ring 1) bs ≡ map v1.ring bs
      go [] = refl
      go (b ∷ bs) = ap₂ (λ (r : List Coedge) (rs : List (List Coedge)). r ∷ rs) (ring_is b) (go bs)

  content_is : sheet_of s ≡ v1.sheet_of s
  unfolding sheet_of v1.sheet_of
  content_is = λ i. record { kind = kind s; sense = sense s; plane = plane s; rings = rings_are i }

  -- what the walk of the blocks tells, behind a head that is there
  walk_is : head_size (kind s) ≤ length s → layout_fault s ≡ walked (ring_count s) (drop (head_size (kind s)) s)
  unfolding layout_fault bytes_over head blocks walked
  walk_is fits =
      let h = head_size (kind s) in
      let bs = cut (block_size 1) (ring_count s) (drop h s) in
      let over = same_ltb (length (take h s ++ flatten bs)) (length s) (length (flatten bs)) (length (drop h s)) (omega (arith, fits, length-append (take h s) (flatten bs), length-take h s, length-drop h s)) in
      rw (is, le-ltb (length s) h fits, over)

  fault_is : layout_fault s ≡ cond (v1.blocks_wrong s) 5 0
  unfolding v1.blocks_wrong
  fault_is =
      let h = head_size (kind s) in
      elim (cases_lt (length s) h) [
        | inl short ↦ rw (layout_short s short, lt-ltb (length s) h short)
        | inr fits ↦ rw (walk_is fits, walked_is (ring_count s) (drop h s), le-ltb (length s) h fits) (by (v1.fill (ring_count s) (drop h s)))
      ]
    where
      by : (b : Bool) → ◌≡◌ {A = ℕ} (cond b 0 5) (cond (not b) 5 0)
      by true = refl
      by false = refl

  wrong_is : blocks_wrong s ≡ v1.blocks_wrong s
  unfolding blocks_wrong
  wrong_is = ap (λ (n : ℕ). not (eqb n 0)) fault_is ∙ by (v1.blocks_wrong s)
    where
      by : (b : Bool) → not (eqb (cond b 5 0) 0) ≡ b
      by true = refl
      by false = refl

  checks_are : layout_checks s ≡ v1.layout_checks s
  unfolding layout_checks v1.layout_checks version_wrong
  checks_are = rw wrong_is

  pub version_1_as_before : v1.AsBefore s
  version_1_as_before = record {
    same_blocks = blocks_are;
    same_content = content_is;
    same_fault = fault_is;
    same_refusal = ap₂ (λ (cs : List Check) (z : Sheet). first (cs ++ content_checks z)) checks_are content_is;
  }

-- ---- how long a block without a fault is

pub block_length : (b : List ℕ) → CutOff (block_size 1) b → block_fault 1 b ≡ 0 → length b ≡ 1 + 280 * get_or b 0 0
unfolding v1.block_size
block_length b off e =
    let own : block_size 1 b ≡ length b = ap (block_size 1) (sym (append-nil b)) ∙ off [] in
    elim (cases_lt (length b) (v1.block_size b)) [
      | inl short ↦ let wrong : 5 ≡ 0 = sym (block_faults b ∙ rw (lt-leb (v1.block_size b) (length b) short)) ∙ e in absurd (omega (arith, wrong))
      | inr long ↦ sym own ∙ whole_size b long
    ]
