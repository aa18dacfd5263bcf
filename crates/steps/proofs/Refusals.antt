-- "With a refusal all other result numbers are 0": a call whose status is not 0 answers nothing but its status, and its
-- status is a number of its table. Behind each table stand three values.
use mathlib.Core.Path.{◌≡◌, refl}
use mathlib.Core.List.{List, [], ◌∷◌}
use mathlib.Core.Logic.{inl, inr}
use Prim.Native.Nat.{ℕ}
use lib.Ieee.{Float}
use Rattle.leaves.proofs.Folds.{All}
use Rattle.answers.specs.Outcome.{Check, first, refused, settled, OneOf}
use Rattle.answers.specs.Answers.{valued}
use Rattle.answers.proofs.FirstCheck.{first_holds}
use Rattle.answers.proofs.Settled.{settled_zeros, settled_holds}
use Rattle.steps.specs.Sample.{sample_parameter_of}
use Rattle.steps.specs.Direction.{direction_of}
use Rattle.steps.specs.Placed.{placed_of}

-- ---- a table before three values

module _ (checks : List Check) (x y z : Float) where
  table_refused : ((settled (first checks) (valued x y z)).status ≡ 0 → ⊥) → settled (first checks) (valued x y z) ≡ refused (settled (first checks) (valued x y z)).status
  table_refused = settled_zeros (first checks) (valued x y z) (λ h. absurd (h refl))

  table_status : (ns : List ℕ) → OneOf ns 0 → All (λ (c : Check). OneOf ns c.number) checks → OneOf ns (settled (first checks) (valued x y z)).status
  table_status ns none h = settled_holds (OneOf ns) (first checks) (valued x y z) (first_holds (OneOf ns) none checks h) none

-- ---- the calls

module _ (a b : Float) (n : ℕ) where
  pub sample_parameter_refused : ((sample_parameter_of a b n).status ≡ 0 → ⊥) → sample_parameter_of a b n ≡ refused (sample_parameter_of a b n).status
  unfolding sample_parameter_of
  sample_parameter_refused = table_refused _ _ _ _

  pub sample_parameter_status : OneOf (0 ∷ 16 ∷ []) (sample_parameter_of a b n).status
  unfolding sample_parameter_of
  sample_parameter_status = table_status _ _ _ _ (0 ∷ 16 ∷ []) (inl refl) (inr (inl refl), tt)

module _ (points : List Float) where
  pub direction_refused : ((direction_of points).status ≡ 0 → ⊥) → direction_of points ≡ refused (direction_of points).status
  unfolding direction_of
  direction_refused = table_refused _ _ _ _

  pub direction_status : OneOf (0 ∷ 16 ∷ []) (direction_of points).status
  unfolding direction_of
  direction_status = table_status _ _ _ _ (0 ∷ 16 ∷ []) (inl refl) (inr (inl refl), tt)

module _ (transform point : List Float) where
  pub placed_refused : ((placed_of transform point).status ≡ 0 → ⊥) → placed_of transform point ≡ refused (placed_of transform point).status
  unfolding placed_of
  placed_refused = table_refused _ _ _ _

  pub placed_status : OneOf (0 ∷ 16 ∷ 24 ∷ []) (placed_of transform point).status
  unfolding placed_of
  placed_status = table_status _ _ _ _ (0 ∷ 16 ∷ 24 ∷ []) (inl refl) (inr (inl refl), (inr (inr (inl refl)), tt))
