-- The paper's six numbers of an outcome tell whether it is an answer: their status is 0 just there, since no refusal
-- has that number.
use mathlib.Core.Path.{◌≡◌, refl, sym, ap}
use mathlib.Core.Bool.{false}
use Prim.Native.Nat.{ℕ}
use lib.Dec.{eqb}
use Rattle.std.proofs.Common.{rules}
use Rattle.std.specs.Prelude.{Result, Ok, Err, is_ok}
use Rattle.answers.specs.Outcome.{Numbers, refused, number_of, status_of}
use Rattle.answers.specs.Answers.{told_by, paper_by}
use Rattle.answers.specs.declared.refusal.Refusal.{Refusal}

pub some_number : (r : Refusal) → eqb (number_of r) 0 ≡ false
unfolding number_of
some_number r = search rules

pub not_zero : (r : Refusal) → number_of r ≡ 0 → ⊥
unfolding number_of
not_zero r e = search rules

pub status_ok : {A : Type 0} (x : A) → status_of (Ok x) ≡ 0
unfolding status_of
status_ok x = refl

pub status_err : (A : Type 0) (r : Refusal) → status_of {A = A} (Err r) ≡ number_of r
unfolding status_of
status_err A r = refl

pub refused_somewhere : (A : Type 0) (r : Refusal) → status_of {A = A} (Err r) ≡ 0 → ⊥
unfolding status_of
refused_somewhere A r e = not_zero r e

module _ {A : Type 0} (numbers : A → Numbers) where
  pub paper_ok : (x : A) → paper_by numbers (Ok x) ≡ numbers x
  unfolding told_by
  paper_ok x = refl

  pub paper_err : (r : Refusal) → paper_by numbers (Err r) ≡ refused (number_of r)
  unfolding told_by
  paper_err r = refl

  -- an answer of zeros is told from a refusal
  pub answer_told : ((x : A) → (numbers x).status ≡ 0) → (outcome : Result A Refusal) → is_ok outcome ≡ eqb (paper_by numbers outcome).status 0
  unfolding told_by
  answer_told answers (Ok x) = sym (ap (λ (n : ℕ). eqb n 0) (answers x))
  answer_told answers (Err r) = sym (some_number r)
