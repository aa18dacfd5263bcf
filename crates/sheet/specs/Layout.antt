-- Document 01, "Sheet": where the fields of a sheet stand, and what they say. What differs by version is said over it.
-- Every definition has a value for every list of bytes, whatever the checks say of it.
use Rattle.std.specs.Prelude.{cond, ℕ, zero, suc, ◌+◌, ◌*◌, ◌%◌, ◌^◌, eqb, ltb, length, get_or, take, drop, Float}
use mathlib.Core.List.{List, [], ◌∷◌, map, foldl, flatten}
use Rattle.std.specs.Float.{binary64}
use Rattle.std.specs.Float.Ieee.{of_bits}
use Rattle.leaves.specs.Constants.{plus_zero}
use Rattle.sheet.specs.Content.{Point, point, Coedge, Sheet}

-- ---- numbers

-- "Big-endian": each byte weighs 256 times the next
unfoldable pub big : List ℕ → ℕ
big s = foldl (λ (n b : ℕ). n * 256 + b) 0 s

-- an f64 by its bits; "A −0 is read as +0"
unfoldable pub number_of : ℕ → Float
unfolding of_bits
number_of bits = cond (eqb (bits % 2 ^ 63) 0) plus_zero (of_bits binary64 bits)

-- the f64 that s begins with; +0 where fewer than eight bytes are left
unfoldable pub number : List ℕ → Float
unfolding number_of big
number s = cond (ltb (length s) 8) plus_zero (number_of (big (take 8 s)))

-- the first n of them
unfoldable pub numbers : ℕ → List ℕ → List Float
unfolding number
numbers zero s = []
numbers (suc n) s = number s ∷ numbers n (drop 8 s)

-- ---- "length of what follows (4 bytes), version 1 (1), kind (1), sense (1), ring count (1)"

abbrev pub length_field : List ℕ → ℕ
length_field s = big (take 4 s)

abbrev pub version : List ℕ → ℕ
version s = get_or s 4 0

abbrev pub kind : List ℕ → ℕ
kind s = get_or s 5 0

abbrev pub sense : List ℕ → ℕ
sense s = get_or s 6 0

abbrev pub ring_count : List ℕ → ℕ
ring_count s = get_or s 7 0

-- "Only kind 0 then has origin, u axis and normal, three f64 each (72 bytes)": what stands before the ring blocks has
-- so many bytes
unfoldable pub head_size : ℕ → ℕ
head_size k = cond (eqb k 0) 80 8

unfoldable pub head : List ℕ → List ℕ
unfolding head_size
head s = take (head_size (kind s)) s

unfoldable pub plane : List ℕ → List Float
unfolding numbers
plane s = cond (eqb (kind s) 0) (numbers 9 (drop 8 s)) []

-- ---- a list cut up: each part has the size that the list tells which it begins

-- the first n parts of s, one behind the other; what s lacks is cut short
unfoldable pub cut : (List ℕ → ℕ) → ℕ → List ℕ → List (List ℕ)
cut size zero s = []
cut size (suc n) s = take (size s) s ∷ cut size n (drop (size s) s)

-- ---- "then c coedges of 280 bytes: deviation, then 17 points (u, v)". So it is in version 1. In version 2 a byte
-- between the two says how many points the coedge has

-- version 1's number of points
abbrev pub sampled : ℕ
sampled = 17

-- how many points the coedge has that s begins with
unfoldable pub coedge_points : ℕ → List ℕ → ℕ
coedge_points version s = cond (eqb version 2) (get_or s 8 0) sampled

-- how many bytes stand before them
unfoldable pub coedge_head : ℕ → ℕ
coedge_head version = cond (eqb version 2) 9 8

unfoldable pub coedge_size : ℕ → List ℕ → ℕ
unfolding coedge_points coedge_head
coedge_size version s = coedge_head version + 16 * coedge_points version s

-- n points, one behind the other
unfoldable pub points : ℕ → List ℕ → List Point
unfolding number
points zero s = []
points (suc n) s = point (number s) (number (drop 8 s)) ∷ points n (drop 16 s)

unfoldable pub coedge : ℕ → List ℕ → Coedge
unfolding number points coedge_points coedge_head
coedge version s = record { deviation = number s; points = points (coedge_points version s) (drop (coedge_head version) s) }

-- ---- "Each ring block: coedge count c (1 byte), then c coedges"

-- the coedges of a block, each as its bytes
unfoldable pub coedge_parts : ℕ → List ℕ → List (List ℕ)
unfolding cut coedge_size
coedge_parts version block = cut (coedge_size version) (get_or block 0 0) (drop 1 block)

unfoldable pub ring : ℕ → List ℕ → List Coedge
unfolding coedge_parts coedge
ring version block = map (coedge version) (coedge_parts version block)

-- the size of the block that s begins with: its count and its coedges
unfoldable pub block_size : ℕ → List ℕ → ℕ
unfolding coedge_parts flatten
block_size version s = 1 + length (flatten (coedge_parts version s))

-- the ring blocks of a sheet
unfoldable pub blocks : List ℕ → List (List ℕ)
unfolding cut block_size head_size
blocks s = cut (block_size (version s)) (ring_count s) (drop (head_size (kind s)) s)

-- ---- the whole

unfoldable pub sheet_of : List ℕ → Sheet
unfolding plane blocks ring
sheet_of s = record { kind = kind s; sense = sense s; plane = plane s; rings = map (ring (version s)) (blocks s) }
