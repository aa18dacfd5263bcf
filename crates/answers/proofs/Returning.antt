-- What a call returns: a list of five numbers, or a list of another length as it was.
use mathlib.Core.Bool.{Bool, cond}
use mathlib.Core.List.{List}
use mathlib.Core.Path.{◌≡◌, ap, ◌∙◌}
use lib.Ieee.{Float, of_bits}
use lib.ListN.{length}
use borrow.Author.Tests.{eq-eqb, ne_eqb}
use Rattle.answers.specs.Outcome.{Numbers, refused}
use Rattle.answers.specs.Returned.{Returned, returned, five, returned_of, zeros}

-- ---- what a call returns

pub other_length : (n : Numbers) (result : List Float) → (length result ≡ 5 → ⊥) → returned 1 result ≡ returned_of n result
unfolding returned_of
other_length n result h = rw (ne_eqb _ _ h)

-- ---- what a host reads in it

module _ (n : Numbers) (result : List Float) (h : length result ≡ 5) where
  returned_is : returned_of n result ≡ returned n.status (five n)
  unfolding returned_of
  returned_is = ap (λ (b : Bool). cond b (returned n.status (five n)) (returned 1 result)) (eq-eqb _ _ h)

  pub status_is : (returned_of n result).status ≡ n.status
  status_is = ap (λ (r : Returned). r.status) returned_is

  pub zeros_beside : n ≡ refused n.status → (returned_of n result).result ≡ zeros
  unfolding five of_bits
  zeros_beside e = ap (λ (r : Returned). r.result) returned_is ∙ ap five e
