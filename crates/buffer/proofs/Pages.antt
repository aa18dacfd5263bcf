-- Laws about bytes laid into a page: where the writer ends, and what the page then begins with.
use Rattle.std.proofs.Common.{◌≡◌, ℕ, ◌≤◌, List, length, take, arith}
use Rattle.std.proofs.lemmas.Grind.{common_steps}
use Rattle.buffer.specs.Page.{laid, behind}

-- the place behind what was written lies within the page
pub put_within : (at : ℕ) (bytes page : List ℕ) (r : ℕ) (after : List ℕ) → at ≤ length page → length after ≡ length page → r ≡ behind at bytes page → r ≤ length after
unfolding behind
put_within at bytes page r after h k p = grind (arith, common_steps)

-- what a writer leaves that starts at the page's start and has room: the page begins with the bytes
pub put_first : (bytes page : List ℕ) (r : ℕ) (after : List ℕ) → length bytes ≤ length page → length after ≡ length page → r ≡ behind 0 bytes page → after ≡ laid 0 bytes page → ((r ≤ length after) × (r ≡ length (take r after))) × (take r after ≡ bytes)
unfolding behind laid
put_first bytes page r after h k p q = grind (arith, common_steps)
