-- "the same ring blocks in another order, all else in the call the same": a sheet whose layout reads is its head and
-- its blocks, one behind the other. With the blocks in another order its layout reads too,
-- its blocks are those, and it says the same but for the rings' order.
use mathlib.Core.Path.{◌≡◌, refl, sym, ap, ap₂, ◌∙◌}
use mathlib.Core.Bool.{Bool, true, false, not, cond, ◌||◌}
use mathlib.Core.List.{List, [], ◌∷◌, ◌++◌, map, flatten, append-nil, Permᴰ}
use Prim.Native.Nat.{ℕ, zero, suc, ◌+◌, ◌-◌, ◌*◌, ◌≤◌, ◌<◌}
use native.Mathlib.Omega.{arith}
use lib.Dec.{eqb, ltb}
use lib.ListN.{length, get_or, take, drop, length-append, length-drop, get_or-append, take-append-drop}
use lib.Seq.{take-append-le, drop-append-le, take_at, drop_at}
use borrow.Author.Tests.{le-ltb, ltb-false}
use Rattle.std.proofs.lemmas.List.{nil_from_length}
use lib.Ieee.{Float}
use Rattle.leaves.specs.Constants.{plus_zero}
use Rattle.leaves.proofs.Folds.{All, all_of, all_perm}
use Rattle.sheet.specs.Content.{Coedge, Sheet, ring_points}
use Rattle.sheet.specs.Layout.{big, number_of, number, numbers, length_field, version, kind, sense, ring_count, head_size, head, plane, cut, block_size, blocks, ring, sheet_of}
use Rattle.answers.specs.Outcome.{first}
use Rattle.sheet.specs.Checks.{length_wrong, version_wrong, codes_wrong, ring_count_wrong, first_fault, block_fault, bytes_over, layout_fault, blocks_wrong, layout_checks}
use Rattle.sheet.proofs.Blocks.{blocks_cut, blocks_length, blocks_whole}
use Rattle.sheet.proofs.Cuts.{CutOff, behind, cut_back, faults_none}
use Rattle.sheet.proofs.Checked.{laid}
use Rattle.sheet.proofs.Walks.{head_length as length_of_head}
use Rattle.answers.proofs.FirstCheck.{first_none}
use Rattle.answers.proofs.Permutations.{perm_length, flatten_perm, map_perm, all_map}
use Rattle.sheet.proofs.Reading.{ClearPoint, ClearDeviation, ring_clear, ring_deviations}

-- the sheet with these rings in place of its own
abbrev pub with_rings : Sheet → List (List Coedge) → Sheet
with_rings s rings = record { kind = s.kind; sense = s.sense; plane = s.plane; rings = rings }

head_size_least : (k : ℕ) → 8 ≤ head_size k
unfolding head_size
head_size_least k = by (eqb k 0)
  where
    by : (b : Bool) → 8 ≤ cond b 80 8
    by true = omega arith
    by false = omega arith

plane_head : (k : ℕ) → eqb k 0 ≡ true → head_size k ≡ 80
unfolding head_size
plane_head k e = ap (λ (b : Bool). cond b 80 8) e

plane_is : (s : List ℕ) → plane s ≡ cond (eqb (kind s) 0) (numbers 9 (drop 8 s)) []
unfolding plane
plane_is s = refl

-- ---- what stands in the front part of a list

module _ (h x y : List ℕ) where
  front_at : (n : ℕ) → n < length h → get_or (h ++ x) n 0 ≡ get_or (h ++ y) n 0
  front_at n l = get_or-append h x 0 n l ∙ sym (get_or-append h y 0 n l)

  front_take : (n : ℕ) → n ≤ length h → take n (h ++ x) ≡ take n (h ++ y)
  front_take n l = take-append-le n h x l ∙ sym (take-append-le n h y l)

  front_number : 8 ≤ length h → number (h ++ x) ≡ number (h ++ y)
  unfolding number
  front_number l =
      ap₂ (λ (b : Bool) (s : List ℕ). cond b plus_zero (number_of (big s))) (le-ltb (length (h ++ x)) 8 (simp length-append (omega arith)) ∙ sym (le-ltb (length (h ++ y)) 8 (simp length-append (omega arith)))) (front_take 8 l)

front_numbers : (n : ℕ) (h x y : List ℕ) → 8 * n ≤ length h → numbers n (h ++ x) ≡ numbers n (h ++ y)
unfolding numbers
front_numbers zero h x y l = refl
front_numbers (suc n) h x y l =
    let l₁ : 8 ≤ length h = omega arith in
    let l₂ : 8 * n ≤ length (drop 8 h) = simp length-drop (omega arith) in
    ap₂ (λ (a : Float) (as' : List Float). a ∷ as') (front_number h x y l₁)
    (ap (numbers n) (drop-append-le 8 h x l₁) ∙ front_numbers n (drop 8 h) x y l₂ ∙ sym (ap (numbers n) (drop-append-le 8 h y l₁)))

-- ---- a sheet whose layout reads, and its blocks in another order

module _ (s : List ℕ) (reads : first (layout_checks s) ≡ 0) where
  pub head_length : length (head s) ≡ head_size (kind s)
  head_length = length_of_head s (laid s reads).head_fits

  head_long : 8 ≤ length (head s)
  head_long = omega (arith, head_length, head_size_least (kind s))

  -- the sheet is its head and its blocks
  pub whole : s ≡ head s ++ flatten (blocks s)
  unfolding head bytes_over
  whole =
      let h = head_size (kind s) in
      let all : flatten (blocks s) ++ left_over ≡ drop h s = blocks_whole s in
      let bytes : head s ++ (flatten (blocks s) ++ left_over) ≡ s = ap (λ (l : List ℕ). head s ++ l) all ∙ take-append-drop h s in
      let none : left_over ≡ [] = nil_from_length left_over (omega (arith, ltb-false _ _ (laid s reads).none_over, ap length bytes, length-append (head s) (flatten (blocks s) ++ left_over), length-append (flatten (blocks s)) left_over, length-append (head s) (flatten (blocks s)))) in
      sym bytes ∙ ap (λ (l : List ℕ). head s ++ l) (ap (λ (l : List ℕ). flatten (blocks s) ++ l) none ∙ append-nil (flatten (blocks s)))
    where
      left_over : List ℕ
      left_over = behind (block_size (version s)) (ring_count s) (drop (head_size (kind s)) s)

  blocks_off : All (CutOff (block_size (version s))) (blocks s)
  blocks_off = blocks_cut s (laid s reads).faultless

  module _ (bs : List (List ℕ)) (d : Permᴰ (blocks s) bs) where
    abbrev t : List ℕ
    t = head s ++ flatten bs

    same_length : length t ≡ length s
    same_length =
        length-append (head s) (flatten bs) ∙ ap (λ (n : ℕ). length (head s) + n) (sym (perm_length (flatten_perm d))) ∙ sym (length-append (head s) (flatten (blocks s))) ∙ sym (ap length whole)

    same_at : (n : ℕ) → n < 8 → get_or t n 0 ≡ get_or s n 0
    same_at n l = let m = head_long in front_at (head s) (flatten bs) (flatten (blocks s)) n (omega arith) ∙ sym (ap (λ (l : List ℕ). get_or l n 0) whole)

    same_field : length_field t ≡ length_field s
    same_field = let m = head_long in ap big (front_take (head s) (flatten bs) (flatten (blocks s)) 4 (omega arith) ∙ sym (ap (take 4) whole))

    pub same_version : version t ≡ version s
    same_version = same_at 4 (omega arith)

    same_kind : kind t ≡ kind s
    same_kind = same_at 5 (omega arith)

    same_sense : sense t ≡ sense s
    same_sense = same_at 6 (omega arith)

    same_count : ring_count t ≡ ring_count s
    same_count = same_at 7 (omega arith)

    count_is : ring_count t ≡ length bs
    count_is = same_count ∙ sym (blocks_length s) ∙ perm_length d

    behind_head : drop (head_size (kind t)) t ≡ flatten bs
    behind_head = ap (λ (k : ℕ). drop (head_size k) t) same_kind ∙ drop_at (head s) (flatten bs) (head_size (kind s)) head_length

    -- its blocks are those
    pub its_blocks : blocks t ≡ bs
    unfolding blocks
    its_blocks =
        let size = block_size (version s) in
        ap₂ (λ (v n : ℕ). cut (block_size v) n (drop (head_size (kind t)) t)) same_version count_is
        ∙ ap (cut size (length bs)) (behind_head ∙ sym (append-nil (flatten bs)))
        ∙ cut_back size bs (all_perm (CutOff size) d blocks_off) []

    same_numbers : head_size (kind s) ≡ 80 → numbers 9 (drop 8 t) ≡ numbers 9 (drop 8 s)
    same_numbers e =
        let m = head_long in
        let l : 8 * 9 ≤ length (drop 8 (head s)) = simp length-drop (omega (arith, head_length)) in
        ap (numbers 9) (drop-append-le 8 (head s) (flatten bs) m)
        ∙ front_numbers 9 (drop 8 (head s)) (flatten bs) (flatten (blocks s)) l
        ∙ sym (ap (numbers 9) (drop-append-le 8 (head s) (flatten (blocks s)) m))
        ∙ sym (ap (λ (l : List ℕ). numbers 9 (drop 8 l)) whole)

    same_plane : plane t ≡ plane s
    same_plane = plane_is t ∙ ap (λ (k : ℕ). cond (eqb k 0) (numbers 9 (drop 8 t)) []) same_kind ∙ by (eqb (kind s) 0) refl ∙ sym (plane_is s)
      where
        by : (b : Bool) → eqb (kind s) 0 ≡ b → cond b (numbers 9 (drop 8 t)) [] ≡ cond b (numbers 9 (drop 8 s)) []
        by true e = same_numbers (plane_head (kind s) e)
        by false e = refl

    same_length_wrong : length_wrong t ≡ length_wrong s
    unfolding length_wrong
    same_length_wrong = ap₂ (λ (n f : ℕ). ltb n 8 || not (eqb f (n - 4))) same_length same_field

    same_version_wrong : version_wrong t ≡ version_wrong s
    unfolding version_wrong
    same_version_wrong = ap (λ (n : ℕ). not (eqb n 1)) same_version

    its_faults : first_fault (block_fault (version t)) (blocks t) ≡ 0
    its_faults =
        let fault = block_fault (version s) in
        ap₂ (λ (v : ℕ) (l : List (List ℕ)). first_fault (block_fault v) l) same_version its_blocks ∙ faults_none fault bs (all_perm (λ (b : List ℕ). fault b ≡ 0) d (laid s reads).faultless)

    its_head : head t ≡ head s
    unfolding head
    its_head = ap (λ (k : ℕ). take (head_size k) t) same_kind ∙ take_at (head s) (flatten bs) (head_size (kind s)) head_length

    none_over : bytes_over t ≡ false
    unfolding bytes_over
    none_over = ap₂ (λ (h : List ℕ) (l : List (List ℕ)). ltb (length (h ++ flatten l)) (length t)) its_head its_blocks ∙ le-ltb (length t) (length t) (omega arith)

    its_fit : blocks_wrong t ≡ false
    unfolding blocks_wrong layout_fault
    its_fit =
        let f : ltb (length t) (head_size (kind t)) ≡ false = le-ltb _ _ (omega (arith, same_length, ap head_size same_kind, (laid s reads).head_fits)) in
        rw (f, its_faults, none_over) refl

    -- its layout reads
    pub its_layout : first (layout_checks t) ≡ 0
    unfolding layout_checks
    its_layout =
        let l = laid s reads in
        first_none (layout_checks t) (same_length_wrong ∙ l.length_right, (same_version_wrong ∙ l.version_right, (ap₂ codes_wrong same_kind same_sense ∙ l.codes_right, (ap₂ ring_count_wrong same_kind same_count ∙ l.count_right, (its_fit, tt)))))

    -- it says the same, but for the order of the rings
    pub its_sheet : sheet_of t ≡ with_rings (sheet_of s) (map (ring (version s)) bs)
    unfolding sheet_of
    its_sheet = λ i. record { kind = same_kind i; sense = same_sense i; plane = same_plane i; rings = map (ring (same_version i)) (its_blocks i) }

    pub its_rings : Permᴰ (sheet_of s).rings (map (ring (version s)) bs)
    unfolding sheet_of
    its_rings = map_perm (ring (version s)) d

-- the rings are those of the blocks
pub rings_are : (s : List ℕ) → (sheet_of s).rings ≡ map (ring (version s)) (blocks s)
unfolding sheet_of
rings_are s = refl

-- no coordinate that is read is -0, and no deviation
pub rings_clear : (s : List ℕ) → All (λ (r : List Coedge). All ClearPoint (ring_points r)) (sheet_of s).rings
unfolding sheet_of
rings_clear s = all_map (λ (r : List Coedge). All ClearPoint (ring_points r)) (ring (version s)) (blocks s) (all_of (λ (b : List ℕ). All ClearPoint (ring_points (ring (version s) b))) (ring_clear (version s)) (blocks s))

pub deviations_clear : (s : List ℕ) → All (All ClearDeviation) (sheet_of s).rings
unfolding sheet_of
deviations_clear s = all_map (All ClearDeviation) (ring (version s)) (blocks s) (all_of (λ (b : List ℕ). All ClearDeviation (ring (version s) b)) (ring_deviations (version s)) (blocks s))
