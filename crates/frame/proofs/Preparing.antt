-- The record of a sheet's rings: what each gives of points, marks and ends is written behind what those before it gave.
use mathlib.Core.List.{List, [], ◌∷◌, ◌++◌, map, flat_map, flatten}
use mathlib.Core.Path.{◌≡◌, refl, sym, ap, ◌∙◌}
use mathlib.Core.Bool.{Bool}
use Prim.Native.Nat.{ℕ, suc, ◌+◌, ◌-◌, ◌≤◌, ◌<◌}
use native.Mathlib.Omega.{arith}
use lib.ListN.{length, take, drop, set, length-map}
use Rattle.answers.specs.Lists.{over}
use Rattle.answers.proofs.Over.{over_all}
use Rattle.sheet.specs.Content.{Point, Coedge, ring_points}
use Rattle.sheet.proofs.Checked.{points_of}
use Rattle.points.specs.Joins.{opens}
use Rattle.points.specs.Unroll.{moved_ring}
use Rattle.points.proofs.InPlace.{Written, none_written, written_length, item_written, all_filled}
use Rattle.points.proofs.InParts.{next_within, next_written, parts_filled}
use Rattle.points.proofs.Marks.{length_opens}
use Rattle.frame.specs.Parts.{ends_from}
use Rattle.frame.proofs.Counting.{own_points, parts_length, moved_of, moved_length}
use Rattle.frame.proofs.Parting.{flat_is}

-- ---- one ring

pub ring_moved : (kind phase : ℕ) (ring : List Coedge) (before : List Point) {read after : List Point} → length before ≡ own_points ring → read ≡ over (ring_points ring) before → after ≡ moved_ring kind phase read → after ≡ moved_of kind phase ring
ring_moved kind phase ring before h r m = m ∙ ap (moved_ring kind phase) (r ∙ over_all (ring_points ring) before h)

-- ---- all rings

length_ends : (from : ℕ) (rings : List (List Point)) → length (ends_from from rings) ≡ length rings
unfolding ends_from
length_ends from [] = refl
length_ends from (ring ∷ rings) = ap suc (length_ends (from + length ring) rings)

-- of the rings `whole` those of `left` are still to come; the `count` before them are written, and end at `from`
pub record Prepared (kind phase : ℕ) (points_before : List Point) (marks_before : List Bool) (ends_before : List ℕ) (whole : List (List Coedge)) (points : List Point) (marks : List Bool) (ends : List ℕ) (from count : ℕ) (left : List (List Coedge)) : Type 0 where
  pub points_written : Written points_before points from (flat_map (moved_of kind phase) left) (flat_map (moved_of kind phase) whole)
  pub marks_written : Written marks_before marks from (flat_map opens left) (flat_map opens whole)
  pub ends_written : Written ends_before ends count (ends_from from (map (moved_of kind phase) left)) (ends_from 0 (map (moved_of kind phase) whole))
  pub points_room : length (flat_map (moved_of kind phase) whole) ≡ length points_before
  pub marks_room : length (flat_map opens whole) ≡ length marks_before
  pub ends_room : length (ends_from 0 (map (moved_of kind phase) whole)) ≡ length ends_before

pub none_prepared : (kind phase : ℕ) {points : List Point} {marks : List Bool} {ends : List ℕ} (rings : List (List Coedge)) → length points ≡ points_of rings → length marks ≡ points_of rings → length ends ≡ length rings
    → Prepared kind phase points marks ends rings points marks ends 0 0 rings
none_prepared kind phase rings p m e = record {
  points_written = none_written _ _;
  marks_written = none_written _ _;
  ends_written = none_written _ _;
  points_room = parts_length (moved_of kind phase) (moved_length kind phase) rings ∙ sym p;
  marks_room = parts_length opens length_opens rings ∙ sym m;
  ends_room = length_ends 0 (map (moved_of kind phase) rings) ∙ length-map rings (moved_of kind phase) ∙ sym e;
}

module _ {kind phase : ℕ} {points_before : List Point} {marks_before : List Bool} {ends_before : List ℕ} {whole : List (List Coedge)} {points : List Point} {marks : List Bool} {ends : List ℕ} {from count : ℕ} {left : List (List Coedge)} (p : Prepared kind phase points_before marks_before ends_before whole points marks ends from count left) where
  module _ {ring : List Coedge} {rest : List (List Coedge)} (next : left ≡ ring ∷ rest) (n : ℕ) (own : n ≡ own_points ring) where
    moved_own : n ≡ length (moved_of kind phase ring)
    moved_own = own ∙ sym (moved_length kind phase ring)

    marks_own : n ≡ length (opens ring)
    marks_own = own ∙ sym (length_opens ring)

    ends_next : ends_from from (map (moved_of kind phase) left) ≡ (from + n) ∷ ends_from (from + n) (map (moved_of kind phase) rest)
    unfolding ends_from
    ends_next = rw (next, moved_own)

    -- the next ring has room in the lists of points and of marks, and so has its end
    pub within : (from + n ≤ length points) × (from + n ≤ length marks) × (count < length ends)
    within = (
      next_within (moved_of kind phase) p.points_written next n moved_own (omega (arith, p.points_room)),
      next_within opens p.marks_written next n marks_own (omega (arith, p.marks_room)),
      omega (arith, written_length p.ends_written, ap length ends_next, p.ends_room, p.ends_written.same),
    )

    -- it is written
    pub ring_prepared : (marks_part : List Bool) {own_points : List Point} {own_marks : List Bool} → own_points ≡ moved_of kind phase ring → own_marks ≡ over (opens ring) marks_part → length marks_part ≡ n
        → Prepared kind phase points_before marks_before ends_before whole (take from points ++ (own_points ++ drop (from + n - from) (drop from points))) (take from marks ++ (own_marks ++ drop (from + n - from) (drop from marks))) (set ends count (from + n)) (from + n) (count + 1) rest
    ring_prepared marks_part m o l = record {
      points_written = next_written (moved_of kind phase) p.points_written next n moved_own (omega (arith, p.points_room)) m;
      marks_written = next_written opens p.marks_written next n marks_own (omega (arith, p.marks_room)) (o ∙ over_all (opens ring) marks_part (l ∙ marks_own));
      ends_written = item_written p.ends_written (from + n) _ ends_next (omega (arith, within, p.ends_written.same));
      points_room = p.points_room;
      marks_room = p.marks_room;
      ends_room = p.ends_room;
    }

  -- every ring is written
  module _ (none : left ≡ []) where
    no_ends : ends_from from (map (moved_of kind phase) left) ≡ []
    unfolding ends_from
    no_ends = rw none refl

    pub all_prepared : (points ≡ flatten (map (moved_of kind phase) whole)) × (marks ≡ flat_map opens whole) × (ends ≡ ends_from 0 (map (moved_of kind phase) whole))
    all_prepared = (
      parts_filled (moved_of kind phase) p.points_written none p.points_room ∙ flat_is (moved_of kind phase) whole,
      parts_filled opens p.marks_written none p.marks_room,
      all_filled p.ends_written no_ends (omega (arith, written_length p.ends_written, ap length no_ends, p.ends_room)),
    )
