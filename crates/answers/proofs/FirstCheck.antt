-- The first check that fails, of any table.
use mathlib.Core.Path.{◌≡◌, refl, sym, ◌∙◌}
use mathlib.Core.Logic.{inl, inr}
use mathlib.Core.Bool.{Bool, true, false, true≢false, cond, ◌||◌}
use mathlib.Core.List.{List, [], ◌∷◌, ◌++◌}
use Prim.Native.Nat.{ℕ, ◌<◌}
use native.Mathlib.Omega.{arith}
use borrow.Author.Tests.{eq-eqb, eqb-true}
use lib.Dec.{T, eqb}
use Rattle.leaves.proofs.Folds.{All}
use Rattle.answers.specs.Outcome.{Check, first, OneOf}

-- 0 is no check's number
abbrev pub Numbered : List Check → Type 0
Numbered cs = All (λ (c : Check). 0 < c.number) cs

-- no check has the number n
abbrev pub Lacks : ℕ → List Check → Type 0
Lacks n cs = All (λ (c : Check). eqb c.number n ≡ false) cs

abbrev pub NoneFails : List Check → Type 0
NoneFails cs = All (λ (c : Check). c.fails ≡ false) cs

no_number : (b : Bool) (m r : ℕ) → 0 < m → cond b m r ≡ 0 → (b ≡ false) × (r ≡ 0)
no_number false m r h e = (refl, e)
no_number true m r h e = absurd (omega arith)

pub none_fails : (cs : List Check) → Numbered cs → first cs ≡ 0 → NoneFails cs
unfolding first
none_fails [] n e = tt
none_fails (c ∷ cs) n e =
    let p = no_number c.fails c.number (first cs) n.0 e in
    (p.0, none_fails cs n.1 p.1)

pub first_none : (cs : List Check) → NoneFails cs → first cs ≡ 0
unfolding first
first_none [] h = refl
first_none (c ∷ cs) h = rw h.0 (first_none cs h.1)

pub first_here : (c : Check) (cs : List Check) → c.fails ≡ true → first (c ∷ cs) ≡ c.number
unfolding first
first_here c cs e = rw e

pub first_later : (c : Check) (cs : List Check) → c.fails ≡ false → first (c ∷ cs) ≡ first cs
unfolding first
first_later c cs e = rw e

-- what holds of 0 and of every row's number holds of the first that fails
pub first_holds : (P : ℕ → Type 0) → P 0 → (cs : List Check) → All (λ (c : Check). P c.number) cs → P (first cs)
unfolding first
first_holds P none [] h = none
first_holds P none (c ∷ cs) h = by c.fails (first_holds P none cs h.1)
  where
    by : (b : Bool) → P (first cs) → P (cond b c.number (first cs))
    by true k = h.0
    by false k = k

-- a number that no check has is not the first's
pub lacks_first : (n : ℕ) (cs : List Check) → 0 < n → Lacks n cs → first cs ≡ n → ⊥
unfolding first
lacks_first n [] some h e = omega arith
lacks_first n (c ∷ cs) some h e = by c.fails (lacks_first n cs some h.1) e
  where
    by : (b : Bool) → (first cs ≡ n → ⊥) → cond b c.number (first cs) ≡ n → ⊥
    by true k e = true≢false (sym (eq-eqb c.number n e) ∙ h.0)
    by false k e = k e

-- ---- one of a table's numbers

abbrev pub amongst : ℕ → List ℕ → Bool
amongst n [] = false
amongst n (m ∷ ms) = eqb n m || amongst n ms

one_of_lem : (ns : List ℕ) (n : ℕ) → T (amongst n ns) → OneOf ns n
one_of_lem [] n t = absurd t
one_of_lem (m ∷ ms) n t = by (eqb n m) refl (one_of_lem ms n) t
  where
    by : (b : Bool) → eqb n m ≡ b → (T (amongst n ms) → OneOf ms n) → T (b || amongst n ms) → OneOf (m ∷ ms) n
    by true e later t = inl (eqb-true n m e)
    by false e later t = inr (later t)

-- the first that fails is one of these, where 0 and every row's number are
pub first_one_of : (ns : List ℕ) (cs : List Check) → T (amongst 0 ns) → All (λ (c : Check). T (amongst c.number ns)) cs → OneOf ns (first cs)
first_one_of ns cs none h = one_of_lem ns (first cs) (first_holds (λ (n : ℕ). T (amongst n ns)) none cs h)

-- ---- two tables, one behind the other

-- the checks of xs come first
after_none : (xs ys : List Check) → NoneFails xs → first (xs ++ ys) ≡ first ys
unfolding first
after_none [] ys h = refl
after_none (c ∷ cs) ys h = rw h.0 (after_none cs ys h.1)

pub first_passed : (xs ys : List Check) → Numbered xs → first xs ≡ 0 → first (xs ++ ys) ≡ first ys
first_passed xs ys n e = after_none xs ys (none_fails xs n e)

pub first_refused : (xs ys : List Check) → (first xs ≡ 0 → ⊥) → first (xs ++ ys) ≡ first xs
unfolding first
first_refused [] ys h = absurd (h refl)
first_refused (c ∷ cs) ys h = go c.fails (first_refused cs ys) h
  where
    go : (b : Bool) → ((first cs ≡ 0 → ⊥) → first (cs ++ ys) ≡ first cs) → (cond b c.number (first cs) ≡ 0 → ⊥) → cond b c.number (first (cs ++ ys)) ≡ cond b c.number (first cs)
    go true later h = refl
    go false later h = later h

pub append_none : (xs ys : List Check) → Numbered xs → first (xs ++ ys) ≡ 0 → (first xs ≡ 0) × (first ys ≡ 0)
unfolding first
append_none [] ys n e = (refl, e)
append_none (c ∷ cs) ys n e =
    let p = no_number c.fails c.number (first (cs ++ ys)) n.0 e in
    let q = append_none cs ys n.1 p.1 in
    (rw p.0 q.0, q.1)
