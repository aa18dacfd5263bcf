-- Demand 3's words on the grid and on the rings, where document 01's rules leave them to the reader. No contract cites
-- them: the theorems in proofs/ do.
use Rattle.std.specs.Prelude.{◌≡◌, ◌↔◌, ◌⊎◌, Bool, true, false, not, cond, List, [], ◌∷◌, ℕ, suc, ◌≤◌, ◌<◌, T, eqb, Float, ◌+ℤ◌}
use Rattle.std.specs.Float.Ieee.{lt, le}
use Rattle.leaves.specs.Constants.{clearance_limit}
use Rattle.sheet.specs.Content.{Point, Sheet}
use Rattle.answers.specs.Outcome.{Check, first, Numbers}
use Rattle.points.specs.Grid.{part, grid_point, grid_of}
use Rattle.search.specs.declared.candidate.Candidate.{Candidate}
use Rattle.coverage.specs.Coverage.{crossings, covered}
use Rattle.chart.specs.Chart.{clearance, normalised}
use Rattle.frame.specs.Framing.{frame}

-- ---- "31 × 31 grid points", "u before v"

pub record OnGrid (i j : ℕ) : Type 0 where
  pub i_from : 1 ≤ i
  pub i_to : i ≤ 31
  pub j_from : 1 ≤ j
  pub j_to : j ≤ 31

-- "A grid point comes after another with lesser i, or with the same i and lesser j": (i, j) comes after (k, l)
abbrev pub After : ℕ → ℕ → ℕ → ℕ → Type 0
After i j k l = (k < i) ⊎ ((k ≡ i) × (l < j))

-- how many are true
unfoldable pub trues : List Bool → ℕ
trues [] = 0
trues (true ∷ bs) = suc (trues bs)
trues (false ∷ bs) = trues bs

-- "the covered grid points", counted
unfoldable pub covered_count : (ℕ → ℕ → Bool) → ℕ
unfolding trues grid_of
covered_count cover = trues (grid_of cover)

-- ---- the chosen point, over any coverage and any clearance of the grid points

module _ (cover : ℕ → ℕ → Bool) (clear : ℕ → ℕ → Float) where
  -- a grid point "covered with computed clearance above 0.01"
  pub record Serves (i j : ℕ) : Type 0 where
    pub on : OnGrid i j
    pub covered : T (cover i j)
    pub above : T (lt clearance_limit (clear i j))

  abbrev pub NoneServes : Type 0
  NoneServes = (i j : ℕ) → Serves i j → ⊥

  -- "the chosen point is covered. Every other covered grid point has at most its clearance, and those with the same
  -- clearance come after it": those that it comes after have less
  pub record Clearest (i j : ℕ) : Type 0 where
    pub serves : Serves i j
    pub most : (k l : ℕ) → OnGrid k l → T (cover k l) → T (le (clear k l) (clear i j))
    pub first : (k l : ℕ) → OnGrid k l → T (cover k l) → After i j k l → T (lt (clear k l) (clear i j))

  -- the grid point as the search gives it: its place, its clearance, and the number of covered grid points
  abbrev pub candidate_at : ℕ → ℕ → Candidate
  candidate_at i j = record { u = part i; v = part j; clearance = clear i j; count = covered_count cover }

-- ---- coverage and clearance of a sheet's grid points, by rules 7 and 8

module _ (s : Sheet) (phase : ℕ) where
  unfoldable pub cover_at : ℕ → ℕ → Bool
  unfolding covered frame normalised grid_point
  cover_at i j = covered (frame s phase) s.sense (normalised s phase) (grid_point i j)

  unfoldable pub clear_at : ℕ → ℕ → Float
  unfolding clearance frame normalised grid_point
  clear_at i j = clearance (frame s phase) (normalised s phase) (grid_point i j)

-- ---- "Suppose a sheet passes every check through the joins"

-- the rows of a table down to the one numbered n, by place; all of them where none has that number
unfoldable pub down_to : ℕ → List Check → List Check
down_to n [] = []
down_to n (c ∷ cs) = c ∷ cond (eqb c.number n) [] (down_to n cs)

-- "passes the checks down to" n
abbrev pub Passes : ℕ → List Check → Type 0
Passes n cs = first (down_to n cs) ≡ 0

-- ---- "division of the rings into two groups"

-- those at the places that d picks; the other group is picked by the places that it leaves
unfoldable pub picked : {A : Type 0} → (ℕ → Bool) → List A → List A
picked d [] = []
picked d (x ∷ xs) = cond (d 0) (x ∷ picked (λ (n : ℕ). d (suc n)) xs) (picked (λ (n : ℕ). d (suc n)) xs)

abbrev pub others : (ℕ → Bool) → ℕ → Bool
others d n = not (d n)

-- ---- "a numbered refusal", of the chart: its table's numbers, and 0 for a point

abbrev pub chart_statuses : List ℕ
chart_statuses = 0 ∷ 1 ∷ 2 ∷ 3 ∷ 4 ∷ 5 ∷ 6 ∷ 7 ∷ 8 ∷ 9 ∷ 11 ∷ 12 ∷ 13 ∷ 14 ∷ []

-- ---- the sentences, of a sheet's content

-- 14 exactly where no grid point serves; else `numbers` are those of the clearest covered grid point, the first of
-- those as clear
abbrev pub Rule : Sheet → ℕ → Numbers → (Candidate → Numbers) → Type 0
Rule s phase numbers of_chosen =
    ((numbers.status ≡ 14) ↔ NoneServes (cover_at s phase) (clear_at s phase))
    × ((NoneServes (cover_at s phase) (clear_at s phase) → ⊥)
    → (i : ℕ) × (j : ℕ) × Clearest (cover_at s phase) (clear_at s phase) i j × (numbers ≡ of_chosen (candidate_at (cover_at s phase) (clear_at s phase) i j)))

-- the crossings of the two groups that d divides the rings into add to those of all
abbrev pub GroupsAdd : Sheet → ℕ → (ℕ → Bool) → Point → Type 0
GroupsAdd s phase d p =
    crossings (frame s phase) (normalised s phase) p ≡ crossings (frame s phase) (picked d (normalised s phase)) p +ℤ crossings (frame s phase) (picked (others d) (normalised s phase)) p
