-- What the first check that fails settles.
use mathlib.Core.Path.{◌≡◌, refl, sym, ap, ◌∙◌}
use mathlib.Core.Bool.{Bool, true, false, cond}
use mathlib.Core.List.{List, [], ◌∷◌}
use Prim.Native.Nat.{ℕ, ◌<◌}
use native.Mathlib.Omega.{arith}
use lib.Dec.{eqb}
use borrow.Author.Tests.{eq-eqb, eqb-true, ne_eqb}
use Rattle.std.specs.Prelude.{Result, Ok, Err}
use Rattle.answers.specs.Outcome.{Check, check, first, Numbers, refused, settled, settle, number_of, numbered}
use Rattle.answers.specs.declared.refusal.Refusal.{Refusal}
use Rattle.answers.proofs.FirstCheck.{first_here, first_later}

pub settled_none : (refusal : ℕ) (numbers : Numbers) → refusal ≡ 0 → settled refusal numbers ≡ numbers
unfolding settled
settled_none refusal numbers e = rw (eq-eqb refusal 0 e)

pub settled_refused : (refusal : ℕ) (numbers : Numbers) → (refusal ≡ 0 → ⊥) → settled refusal numbers ≡ refused refusal
unfolding settled
settled_refused refusal numbers h = rw (ne_eqb refusal 0 h)

pub settled_status : (refusal : ℕ) (numbers : Numbers) → numbers.status ≡ 0 → (settled refusal numbers).status ≡ refusal
unfolding settled
settled_status refusal numbers answers = by (eqb refusal 0) refl
  where
    by : (b : Bool) → eqb refusal 0 ≡ b → (cond b numbers (refused refusal)).status ≡ refusal
    by true e = answers ∙ sym (eqb-true refusal 0 e)
    by false e = refl

-- where a refusal's other numbers are 0, they are 0 once more checks came before it
pub settled_zeros : (refusal : ℕ) (numbers : Numbers) → ((numbers.status ≡ 0 → ⊥) → numbers ≡ refused numbers.status) → ((settled refusal numbers).status ≡ 0 → ⊥) → settled refusal numbers ≡ refused (settled refusal numbers).status
unfolding settled
settled_zeros refusal numbers zeros = by (eqb refusal 0)
  where
    by : (b : Bool) → ((cond b numbers (refused refusal)).status ≡ 0 → ⊥) → cond b numbers (refused refusal) ≡ refused (cond b numbers (refused refusal)).status
    by true h = zeros h
    by false h = refl

-- what holds of the first check that fails, and of the status behind, holds of the status settled
pub settled_holds : (P : ℕ → Type 0) (refusal : ℕ) (numbers : Numbers) → P refusal → P numbers.status → P (settled refusal numbers).status
unfolding settled
settled_holds P refusal numbers h k = by (eqb refusal 0)
  where
    by : (b : Bool) → P (cond b numbers (refused refusal)).status
    by true = k
    by false = h

-- by one last row
pub settled_last : (n : ℕ) → 0 < n → (b : Bool) (numbers : Numbers) → settled (first (check n b ∷ [])) numbers ≡ cond b (refused n) numbers
unfolding first settled
settled_last n h true numbers = settled_refused n numbers (λ e. omega arith)
settled_last n h false numbers = refl

-- ---- a table, a row at a time

-- the first row's check fails
pub settled_here : (n : ℕ) → 0 < n → (b : Bool) (cs : List Check) (numbers : Numbers) → b ≡ true → settled (first (check n b ∷ cs)) numbers ≡ refused n
settled_here n h b cs numbers e = ap (λ (r : ℕ). settled r numbers) (first_here (check n b) cs e) ∙ settled_refused n numbers (λ z. omega arith)

-- it does not
pub settled_later : (n : ℕ) (b : Bool) (cs : List Check) (numbers : Numbers) → b ≡ false → settled (first (check n b ∷ cs)) numbers ≡ settled (first cs) numbers
settled_later n b cs numbers e = ap (λ (r : ℕ). settled r numbers) (first_later (check n b) cs e)

-- no row is left
pub settled_empty : (numbers : Numbers) → settled (first []) numbers ≡ numbers
unfolding first settled
settled_empty numbers = refl

-- ---- a result that is settled so

module _ {A : Type 0} where
  pub settle_ok : (n : ℕ) (x : A) → n ≡ 0 → settle n x ≡ Ok x
  unfolding settle
  settle_ok n x e = rw (eq-eqb n 0 e)

  pub settle_err : (n : ℕ) (x : A) → (n ≡ 0 → ⊥) → settle n x ≡ Err n
  unfolding settle
  settle_err n x h = rw (ne_eqb n 0 h)

  -- what is read in it
  ok_of : (n : ℕ) (x y : A) → settle n x ≡ Ok y → (n ≡ 0) × (y ≡ x)
  unfolding settle
  ok_of n x y e = by (eqb n 0) refl e
    where
      by : (b : Bool) → eqb n 0 ≡ b → ◌≡◌ {A = Result A ℕ} (cond b (Ok x) (Err n)) (Ok y) → (n ≡ 0) × (y ≡ x)
      by true k e = (eqb-true n 0 k, cc)
      by false k e = let z : ◌≡◌ {A = ℕ} 0 1 = cc in absurd (omega arith)

  err_of : (n m : ℕ) (x : A) → settle n x ≡ Err m → m ≡ n
  unfolding settle
  err_of n m x e = by (eqb n 0) e
    where
      by : (b : Bool) → ◌≡◌ {A = Result A ℕ} (cond b (Ok x) (Err n)) (Err m) → m ≡ n
      by true e = let z : ◌≡◌ {A = ℕ} 0 1 = cc in absurd (omega arith)
      by false e = cc

  pub ok_told : {r : Result A Refusal} (n : ℕ) (x y : A) → numbered r ≡ settle n x → r ≡ Ok y → (n ≡ 0) × (y ≡ x)
  unfolding numbered
  ok_told n x y e k = ok_of n x y (sym e ∙ ap numbered k)

  pub err_told : {r : Result A Refusal} (n : ℕ) (x : A) (refusal : Refusal) → numbered r ≡ settle n x → r ≡ Err refusal → number_of refusal ≡ n
  unfolding numbered
  err_told n x refusal e k = err_of n (number_of refusal) x (sym e ∙ ap numbered k)
