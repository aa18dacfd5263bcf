-- Bytes laid into a page, from a place on.
use Rattle.std.specs.Prelude.{Bool, cond, List, ◌++◌, ℕ, ◌+◌, leb, length, take, drop}

-- the page has room for the bytes from `at` on
abbrev pub room : ℕ → List ℕ → List ℕ → Bool
room at bytes page = leb (at + length bytes) (length page)

-- the page with the bytes from `at` on; without room for the whole, the page as it was
unfoldable pub laid : ℕ → List ℕ → List ℕ → List ℕ
laid at bytes page = cond (room at bytes page) (take at page ++ bytes ++ drop (at + length bytes) page) page

-- the place behind the bytes; without room for the whole, `at`
unfoldable pub behind : ℕ → List ℕ → List ℕ → ℕ
behind at bytes page = cond (room at bytes page) (at + length bytes) at
