-- How the code finds a column of the grid further on: by halves.
use Rattle.std.specs.Prelude.{List, [], ◌∷◌, map, filter, ℕ, ◌+◌, ◌-◌, leb}

-- the columns so many further than i, as far as the last
unfoldable pub further : ℕ → List ℕ → List ℕ
further i steps = map (λ step. i + step) (filter (λ step. leb step (31 - i)) steps)

-- the last column, and those behind i by halves
unfoldable pub columns_ahead : ℕ → List ℕ
unfolding further
columns_ahead i = further i ((31 - i) ∷ 16 ∷ 8 ∷ 4 ∷ 2 ∷ 1 ∷ [])
