-- Lists of cells, as those of the grid's points, that change by their place: of the cells before a place every one has
-- changed, and of those from there on none. A step changes one cell or a whole line of them.
use mathlib.Core.Path.{◌≡◌, refl, sym, ap, ◌∙◌}
use mathlib.Core.Bool.{Bool, false, xor}
use mathlib.Core.List.{List, ◌++◌}
use Prim.Native.Nat.{ℕ, ◌+◌, ◌-◌, ◌/◌, ◌%◌, ◌<◌, ◌≤◌}
use native.Mathlib.Decide.{dec_lt}
use native.Mathlib.Omega.{arith}
use lib.ListN.{length, get_or, take, drop, set, length-set, length-map}
use lib.Seq.{get_or-set_same, get_or-set_other, get_or-take, get_or-drop, ext_get_or}
use Rattle.std.specs.Array.{IsFirstChunk}
use Rattle.sheet.specs.Content.{Point}
use Rattle.points.proofs.Anew.{anew, anew_length, anew_before, anew_in, anew_after}
use Rattle.answers.specs.Lists.{over}
use Rattle.answers.proofs.Over.{over_short, over_room, over_all}
use Rattle.points.specs.Grid.{up_from, grid_of}
use Rattle.inside.specs.Inside.{inside_of}
use Rattle.inside.specs.Lines.{Holds, by_rows, flipped_by}
use Rattle.points.proofs.GridOrder.{up_length, row_at_lem, grid_length, grid_nth}

-- ---- cells that change by their place, one after the other or line after line

module _ {A : Type 0} (none : A) (size : ℕ) (change : ℕ → A → A) (old : List A) where
  -- those before a place have changed, and none from there on
  pub record Changed (at : ℕ) (l : List A) : Type 0 where
    pub count : length l ≡ size
    pub done : (k : ℕ) → k < at → get_or l k none ≡ change k (get_or old k none)
    pub left : (k : ℕ) → at ≤ k → get_or l k none ≡ get_or old k none

  pub none_changed : length old ≡ size → Changed 0 old
  none_changed h = record { count = h; done = λ k l. absurd (omega arith); left = λ k l. refl }

  module _ (at : ℕ) (l : List A) (c : Changed at l) where
    -- places that ask no change
    pub passed : (next : ℕ) → at ≤ next → ((k : ℕ) → at ≤ k → k < next → change k (get_or old k none) ≡ get_or old k none) → Changed next l
    passed next h same = record { count = c.count; done = λ k n. by k n (dec_lt k at); left = λ k n. c.left k (omega arith) }
      where
        by : (k : ℕ) → k < next → Dec (k < at) → get_or l k none ≡ change k (get_or old k none)
        by k n (yes p) = c.done k p
        by k n (no p) = c.left k (omega arith) ∙ sym (same k (omega arith) n)

    -- one cell
    pub cell_changed : at < size → (a : A) → a ≡ change at (get_or l at none) → Changed (at + 1) (set l at a)
    cell_changed h a e = record { count = length-set l at a ∙ c.count; done = λ k n. by k n (dec_lt k at); left = λ k n. get_or-set_other l at k a none (omega arith) ∙ c.left k (omega arith) }
      where
        by : (k : ℕ) → k < at + 1 → Dec (k < at) → get_or (set l at a) k none ≡ change k (get_or old k none)
        by k n (yes p) = get_or-set_other l at k a none (omega arith) ∙ c.done k p
        by k n (no p) =
            let f : k ≡ at = omega arith in
            rw f (get_or-set_same l at a none (omega (arith, c.count)) ∙ e ∙ ap (change at) (c.left at (omega arith)))

    -- a line of x cells, as it stands by itself and written anew
    pub in_line : (x m : ℕ) → m < x → get_or (take x (drop at l)) m none ≡ get_or old (at + m) none
    in_line x m h = get_or-take x (drop at l) m none h ∙ get_or-drop at l m none ∙ c.left (at + m) (omega arith)

    module _ (x next : ℕ) (to : next ≡ at + x) (room : next ≤ size) (ys : List A) (value : ℕ → A) (new : Holds none x ys value) where
      pub line_changed : ((m : ℕ) → m < x → value m ≡ change (at + m) (get_or old (at + m) none)) → Changed next (anew l ys at x)
      line_changed meant = record { count = anew_length none l ys at x new.count fit ∙ c.count; done = λ k n. by k n (dec_lt k at); left = λ k n. anew_after none l ys at x new.count fit k (omega arith) ∙ c.left k (omega arith) }
        where
          fit : at + x ≤ length l
          fit = let n = c.count in omega arith

          by : (k : ℕ) → k < next → Dec (k < at) → get_or (anew l ys at x) k none ≡ change k (get_or old k none)
          by k n (yes p) = anew_before none l ys at x new.count fit k p ∙ c.done k p
          by k n (no p) =
              let m = k - at in
              let e : at + m ≡ k = omega arith in
              rw (← e) (anew_in none l ys at x new.count fit m (omega arith) ∙ new.is m (omega arith) ∙ meant m (omega arith))

    pub all_changed : size ≤ at → Holds none size l (λ (k : ℕ). change k (get_or old k none))
    all_changed h = record { count = c.count; is = λ k n. c.done k (omega arith) }

-- a loop over the cells
pub ruleset cell_by_cell = (none_changed, passed, cell_changed, all_changed)

-- ---- what all cells hold is the list

-- in the grid's order
pub all_grid : {A : Type 0} (none : A) (l : List A) (f : ℕ → ℕ → A) → Holds none 961 l (λ (k : ℕ). f (k / 31 + 1) (k % 31 + 1)) → l ≡ grid_of f
all_grid none l f h = ext_get_or none l (grid_of f) (h.count ∙ sym (grid_length f)) (λ k n. let m : k < 961 = omega (arith, h.count) in h.is k m ∙ sym (grid_nth f none k m))

-- over the front of a list that has room for them, and of one that has none
module _ {A : Type 0} (f : ℕ → ℕ → A) (old : List A) where
  pub grid_front : {front ys : List A} → IsFirstChunk old front 961 → ys ≡ grid_of f → ys ++ drop 961 old ≡ over (grid_of f) old
  grid_front room e =
      let n = room.enough in
      rw (e, over_room (grid_of f) old (omega (arith, grid_length f)), grid_length f)

  pub grid_short : length old < 961 → old ≡ over (grid_of f) old
  grid_short h = sym (over_short (grid_of f) old (omega (arith, grid_length f)))

-- by rows, each flipped by a ring
module _ (ring : List Point) (cells : List Bool) where
  pub flipped_length : length (flipped_by ring cells) ≡ 961
  unfolding flipped_by
  flipped_length = length-map (up_from 0 961) _ ∙ up_length 0 961

  flipped_at : (k : ℕ) → k < 961 → get_or (flipped_by ring cells) k false ≡ xor (get_or cells k false) (inside_of ring (by_rows k))
  unfolding flipped_by
  flipped_at k h =
      let e : 0 + k ≡ k = omega arith in
      row_at_lem (λ (i k : ℕ). xor (get_or cells k false) (inside_of ring (by_rows k))) false 0 0 961 k h ∙ rw e

  module _ {l : List Bool} where
    pub all_flipped : Holds false 961 l (λ (k : ℕ). xor (get_or cells k false) (inside_of ring (by_rows k))) → l ≡ flipped_by ring cells
    all_flipped h = ext_get_or false l (flipped_by ring cells) (h.count ∙ sym flipped_length) (λ k n. let m : k < 961 = omega (arith, h.count) in h.is k m ∙ sym (flipped_at k m))

    -- over just so many cells
    pub flipped_cells : length cells ≡ 961 → l ≡ over (flipped_by ring cells) cells → Holds false 961 l (λ (k : ℕ). xor (get_or cells k false) (inside_of ring (by_rows k)))
    flipped_cells h e =
        let f : l ≡ flipped_by ring cells = e ∙ over_all (flipped_by ring cells) cells (h ∙ sym flipped_length) in
        record { count = rw f flipped_length; is = λ k n. rw f (flipped_at k n) }
