-- Laws about a failed read whose failure is passed on, wrapped in another.
use Rattle.std.proofs.Common.{◌≡◌, ℕ, ◌<◌, ◌≤◌, List, length, Option, Some, None, Result, Ok, Err, MatchResult, ap, ◌∙◌, subst, rules}
use Rattle.std.specs.Result.{IsErrAnd}
use Rattle.std.proofs.lemmas.Result.{err_from_is_err_and}
use Rattle.std.specs.declared.io.Error.{Error}
use Rattle.cases.specs.Reading.{unless, full_or_broken}
use Rattle.cases.specs.declared.record.RecordError.TheVariants.{Broken}
use borrow.Author.Tests.{lt-ltb, le-ltb}

err_is : {A E : Type 0} (r : Result A E) (e : E) → IsErrAnd r (λ x. x ≡ e) → r ≡ Err e
err_is r e h = let f = err_from_is_err_and r h in f.1 ∙ ap Err f.2

-- a read of n bytes, and what its failure was wrapped in
module _ {E : Type 0} (why : Error → E) (n : ℕ) (read : Result ℕ Error) (wrapped : Result ℕ E) where
  pub wrapped_told : (fault : Option Error) → read ≡ unless (λ e. e) fault (Ok n) → MatchResult read (λ m. wrapped ≡ Ok m) (λ e. IsErrAnd wrapped (λ x. x ≡ why e)) → wrapped ≡ unless why fault (Ok n)
  unfolding unless
  wrapped_told None p q = subst (λ r. MatchResult r (λ m. wrapped ≡ Ok m) (λ e. IsErrAnd wrapped (λ x. x ≡ why e))) p q
  wrapped_told (Some e) p q = err_is wrapped (why e) (subst (λ r. MatchResult r (λ m. wrapped ≡ Ok m) (λ e. IsErrAnd wrapped (λ x. x ≡ why e))) p q)

-- where it failed, so does what comes after it
pub fails : {A E : Type 0} (why : Error → E) (n : ℕ) (fault : Option Error) (f : E) (answer last : Result A E) → Err f ≡ unless why fault (Ok n) → IsErrAnd last (λ x. x ≡ f) → last ≡ unless why fault answer
unfolding unless
fails why n None f answer last p q = search rules
fails why n (Some e) f answer last p q = err_is last f q ∙ search rules

-- where it did not, that has its own answer
pub passes : {A E : Type 0} (why : Error → E) (n m : ℕ) (fault : Option Error) (answer : Result A E) → Ok m ≡ unless why fault (Ok n) → (m ≡ n) × (answer ≡ unless why fault answer)
unfolding unless
passes why n m None answer p = search rules
passes why n m (Some e) answer p = search rules

-- ---- a buffer that is to be full

pub falls_short : (n : ℕ) (bytes : List ℕ) → length bytes < n → full_or_broken n bytes ≡ Err Broken
unfolding full_or_broken
falls_short n bytes h = rw (lt-ltb (length bytes) n h)

pub fills : (n : ℕ) (bytes : List ℕ) → n ≤ length bytes → full_or_broken n bytes ≡ Ok tt
unfolding full_or_broken
fills n bytes h = rw (le-ltb (length bytes) n h)
