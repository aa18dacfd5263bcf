-- Document 01, "Sheet", as it reads for version 1 alone, before document 02's versions: the layout with 280 bytes and
-- 17 points a coedge, check 5, and the sheet. No contract cites them: the theorem in proofs/Version1.antt does.
use Rattle.std.specs.Prelude.{Bool, not, cond, ◌&&◌, ◌||◌, ◌≡◌, ℕ, zero, suc, ◌+◌, ◌*◌, eqb, leb, ltb, length, get_or, take, drop}
use mathlib.Core.List.{List, [], ◌∷◌, ◌++◌, map}
use Rattle.sheet.specs.Content.{Coedge, Sheet}
use Rattle.sheet.specs.Layout.{number, points, version, kind, sense, ring_count, head_size, plane}
use Rattle.sheet.specs.Layout.{blocks as blocks_of, sheet_of as sheet_of_any}
use Rattle.sheet.specs.Checks.{layout_fault, length_wrong, codes_wrong, ring_count_wrong, content_checks}
use Rattle.sheet.specs.Checks.{layout_checks as layout_checks_of}
use Rattle.answers.specs.Outcome.{Check, check, first}

-- the size of the block that s begins with
unfoldable pub block_size : List ℕ → ℕ
block_size s = 1 + 280 * get_or s 0 0

-- the first n blocks of s, one behind the other
unfoldable pub cut : ℕ → List ℕ → List (List ℕ)
unfolding block_size
cut zero s = []
cut (suc n) s = take (block_size s) s ∷ cut n (drop (block_size s) s)

-- the ring blocks of a sheet
unfoldable pub blocks : List ℕ → List (List ℕ)
unfolding cut
blocks s = cut (ring_count s) (drop (head_size (kind s)) s)

unfoldable pub coedge : List ℕ → Coedge
coedge s = record { deviation = number s; points = points 17 (drop 8 s) }

unfoldable pub coedges : ℕ → List ℕ → List Coedge
unfolding coedge
coedges zero s = []
coedges (suc n) s = coedge s ∷ coedges n (drop 280 s)

unfoldable pub ring : List ℕ → List Coedge
unfolding coedges
ring block = coedges (get_or block 0 0) (drop 1 block)

unfoldable pub sheet_of : List ℕ → Sheet
unfolding blocks ring
sheet_of s = record { kind = kind s; sense = sense s; plane = plane s; rings = map ring (blocks s) }

-- whether s is n blocks, one behind the other, and nothing more
unfoldable pub fill : ℕ → List ℕ → Bool
unfolding block_size
fill zero s = eqb (length s) 0
fill (suc n) s = leb (block_size s) (length s) && fill n (drop (block_size s) s)

unfoldable pub blocks_wrong : List ℕ → Bool
unfolding fill
blocks_wrong s = ltb (length s) (head_size (kind s)) || not (fill (ring_count s) (drop (head_size (kind s)) s))

unfoldable pub layout_checks : List ℕ → List Check
unfolding blocks_wrong
layout_checks s =
    check 1 (length_wrong s)
    ∷ check 2 (not (eqb (version s) 1))
    ∷ check 3 (codes_wrong (kind s) (sense s))
    ∷ check 4 (ring_count_wrong (kind s) (ring_count s))
    ∷ check 5 (blocks_wrong s)
    ∷ []

-- on a sheet whose version byte is 1: the blocks, the content, the fault of the layout, which is never 27, and the
-- first of the checks 1 to 7 that fails
pub record AsBefore (s : List ℕ) : Type 0 where
  pub same_blocks : blocks_of s ≡ blocks s
  pub same_content : sheet_of_any s ≡ sheet_of s
  pub same_fault : layout_fault s ≡ cond (blocks_wrong s) 5 0
  pub same_refusal : first (layout_checks_of s ++ content_checks (sheet_of_any s)) ≡ first (layout_checks s ++ content_checks (sheet_of s))
