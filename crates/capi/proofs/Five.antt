-- What the chart leaves: its result, and the lent list.
use mathlib.Core.Bool.{Bool, cond}
use mathlib.Core.List.{List}
use mathlib.Core.Path.{◌≡◌, sym, ap, ap₂, ◌∙◌}
use Prim.Native.Nat.{ℕ}
use lib.Ieee.{Float}
use lib.ListN.{length}
use borrow.Author.Tests.{eq-eqb, ne_eqb}
use Rattle.std.specs.Prelude.{Result}
use Rattle.answers.specs.Answers.{paper}
use Rattle.answers.specs.Returned.{returned, returned_of}
use Rattle.answers.specs.declared.outcomes.Values.{Values}
use Rattle.answers.specs.declared.refusal.Refusal.{Refusal}
use Rattle.answers.proofs.Returning.{other_length}
use Rattle.chart.specs.Chart.{Charted, charted}
use Rattle.capi.specs.Convention.{seen, seen_of}

pub chart_other_length : (given : Charted) (points result : List Float) → (length result ≡ 5 → ⊥) → seen (returned 1 result) points ≡ seen_of given points result
unfolding seen_of
chart_other_length given points result h = ap₂ seen (other_length given.numbers result h) (sym (ap (λ (b : Bool). cond b given.points points) (ne_eqb _ _ h)))

pub chart_of_five : (given : Charted) (points result stored left : List Float) (status : ℕ) (r : Result Values Refusal) → length result ≡ 5 → charted (paper r) left ≡ given → returned status stored ≡ returned_of (paper r) result
    → seen (returned status stored) left ≡ seen_of given points result
unfolding seen_of
chart_of_five given points result stored left status r h e p =
    ap₂ seen (p ∙ ap (λ (c : Charted). returned_of c.numbers result) e) (ap (λ (c : Charted). c.points) e ∙ sym (ap (λ (b : Bool). cond b given.points points) (eq-eqb _ _ h)))
