-- The grid's numbers and its order. A run of numbers, taken one after the other; a value for each place of a grid, row
-- after row, found at its row and column.
use mathlib.Core.Path.{◌≡◌, refl, ap, ap₂, ◌∙◌}
use mathlib.Core.List.{List, [], ◌∷◌, map, flat_map}
use Prim.Native.Nat.{ℕ, zero, suc, ◌+◌, ◌-◌, ◌*◌, ◌/◌, ◌%◌, ◌<◌, ◌≤◌}
use native.Mathlib.Nat.{suc-mul}
use native.Mathlib.Omega.{arith}
use lib.ListN.{length, get_or, length-append, length-map, get_or-append}
use lib.Seq.{get_or-append-add}
use Rattle.points.specs.Grid.{up_from, lines, grid_of}

-- ---- numbers from one on

pub up_length : (i n : ℕ) → length (up_from i n) ≡ n
unfolding up_from
up_length i zero = refl
up_length i (suc n) = ap suc (up_length (i + 1) n)

-- those that are left before an end
pub up_step : (i end : ℕ) → i < end → up_from i (end - i) ≡ i ∷ up_from (i + 1) (end - (i + 1))
unfolding up_from
up_step i end h =
    let e : end - i ≡ suc (end - (i + 1)) = omega arith in
    rw e

pub up_end : (i end : ℕ) → end ≤ i → up_from i (end - i) ≡ []
unfolding up_from
up_end i end h =
    let e : end - i ≡ 0 = omega arith in
    rw e

-- ---- rows

module _ {A : Type 0} (f : ℕ → ℕ → A) where
  -- one row
  pub row_at_lem : (d : A) (i b m j : ℕ) → j < m → get_or (map (f i) (up_from b m)) j d ≡ f i (b + j)
  unfolding up_from
  row_at_lem d i b zero j h = absurd (omega arith)
  row_at_lem d i b (suc m) zero h =
      let e : b + 0 ≡ b = omega arith in
      rw e
  row_at_lem d i b (suc m) (suc j) h =
      let e : b + 1 + j ≡ b + suc j = omega arith in
      rw (← e) (row_at_lem d i (b + 1) m j (omega arith))

  module _ (b m : ℕ) where
    row_length : (i : ℕ) → length (map (f i) (up_from b m)) ≡ m
    row_length i = length-map (up_from b m) (f i) ∙ up_length b m

    -- so many rows from the row a on
    abbrev rows : ℕ → ℕ → List A
    rows a n = flat_map (λ (i : ℕ). map (f i) (up_from b m)) (up_from a n)

    rows_length : (a n : ℕ) → length (rows a n) ≡ n * m
    unfolding up_from flat_map
    rows_length a zero = omega arith
    rows_length a (suc n) = simp (length-append, row_length, rows_length (a + 1) n, suc-mul) (omega arith)

    rows_at : (d : A) (a n i j : ℕ) → i < n → j < m → get_or (rows a n) (i * m + j) d ≡ f (a + i) (b + j)
    unfolding up_from flat_map
    rows_at d a zero i j h k = absurd (omega arith)
    rows_at d a (suc n) zero j h k =
        let e : 0 * m + j ≡ j = omega arith in
        let g : a + 0 ≡ a = omega arith in
        let l : j < length (map (f a) (up_from b m)) = rw row_length k in
        rw (e, g, get_or-append (map (f a) (up_from b m)) (rows (a + 1) n) d j l) (row_at_lem d a b m j k)
    rows_at d a (suc n) (suc i) j h k =
        let e : suc i * m + j ≡ length (map (f a) (up_from b m)) + (i * m + j) = rw row_length (simp suc-mul (omega arith)) in
        let g : a + 1 + i ≡ a + suc i = omega arith in
        rw (e, get_or-append-add (map (f a) (up_from b m)) (rows (a + 1) n) (i * m + j) d, ← g) (rows_at d (a + 1) n i j (omega arith) k)

-- ---- the grid: 31 rows of 31

module _ {A : Type 0} (f : ℕ → ℕ → A) where
  pub grid_length : length (grid_of f) ≡ 961
  unfolding grid_of lines
  grid_length = rows_length f 1 31 1 31

  pub grid_at : (d : A) (i j : ℕ) → i < 31 → j < 31 → get_or (grid_of f) (i * 31 + j) d ≡ f (1 + i) (1 + j)
  unfolding grid_of lines
  grid_at d i j h k = rows_at f 1 31 d 1 31 i j h k

  pub grid_place : (d : A) (i j : ℕ) → 1 ≤ i → i ≤ 31 → 1 ≤ j → j ≤ 31 → get_or (grid_of f) ((i - 1) * 31 + (j - 1)) d ≡ f i j
  grid_place d i j h k l m =
      let e : 1 + (i - 1) ≡ i = omega arith in
      let g : 1 + (j - 1) ≡ j = omega arith in
      grid_at d (i - 1) (j - 1) (omega arith) (omega arith) ∙ ap₂ f e g

  pub grid_nth : (d : A) (k : ℕ) → k < 961 → get_or (grid_of f) k d ≡ f (k / 31 + 1) (k % 31 + 1)
  grid_nth d k h =
      let e : k ≡ k / 31 * 31 + k % 31 = omega arith in
      let g : 1 + k / 31 ≡ k / 31 + 1 = omega arith in
      let l : 1 + k % 31 ≡ k % 31 + 1 = omega arith in
      ap (λ (n : ℕ). get_or (grid_of f) n d) e ∙ grid_at d (k / 31) (k % 31) (omega arith) (omega arith) ∙ ap₂ f g l
