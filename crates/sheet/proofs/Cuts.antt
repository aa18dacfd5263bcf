-- A list cut up into parts: the parts and what is left behind them are the list, and parts that are cut off whatever
-- stands behind them are cut back into themselves. A part of which no fault is told is such a one, if a part of the
-- first size is.
use mathlib.Core.Path.{◌≡◌, refl, sym, ap, ap₂, ◌∙◌}
use mathlib.Core.Bool.{cond}
use mathlib.Core.List.{List, [], ◌∷◌, ◌++◌, flatten, append_assoc}
use Prim.Native.Nat.{ℕ, zero, suc, ◌+◌}
use native.Mathlib.Omega.{arith}
use lib.Dec.{eqb}
use lib.ListN.{length, take, drop, length-append, take-append-drop}
use lib.Seq.{take_at, drop_at}
use borrow.Author.Tests.{eq-eqb, ne_eqb}
use Rattle.leaves.proofs.Folds.{All}
use Rattle.sheet.specs.Layout.{cut}
use Rattle.sheet.specs.Checks.{first_fault}

module _ (size : List ℕ → ℕ) where
  pub cut_length : (n : ℕ) (s : List ℕ) → length (cut size n s) ≡ n
  unfolding cut
  cut_length zero s = refl
  cut_length (suc n) s = ap suc (cut_length n (drop (size s) s))

  -- what stands behind the first n parts
  unfoldable pub behind : ℕ → List ℕ → List ℕ
  behind zero s = s
  behind (suc n) s = behind n (drop (size s) s)

  pub cut_whole : (n : ℕ) (s : List ℕ) → flatten (cut size n s) ++ behind n s ≡ s
  unfolding cut behind flatten
  cut_whole zero s = refl
  cut_whole (suc n) s =
      let rest = drop (size s) s in
      append_assoc (take (size s) s) (flatten (cut size n rest)) (behind n rest)
      ∙ ap (λ (l : List ℕ). take (size s) s ++ l) (cut_whole n rest)
      ∙ take-append-drop (size s) s

  -- p is cut off, whatever stands behind it
  abbrev pub CutOff : List ℕ → Type 0
  CutOff p = (rest : List ℕ) → size (p ++ rest) ≡ length p

  pub cut_back : (ps : List (List ℕ)) → All CutOff ps → (rest : List ℕ) → cut size (length ps) (flatten ps ++ rest) ≡ ps
  unfolding cut flatten
  cut_back [] h rest = refl
  cut_back (p ∷ ps) h rest =
      let later = flatten ps ++ rest in
      let own : length p ≡ size (p ++ later) = sym (h.0 later) in
      ap (cut size (suc (length ps))) (append_assoc p (flatten ps) rest)
      ∙ ap₂ (λ (x : List ℕ) (xs : List (List ℕ)). x ∷ xs) (take_at p later (size (p ++ later)) own)
      (ap (cut size (length ps)) (drop_at p later (size (p ++ later)) own) ∙ cut_back ps h.1 rest)

  -- ---- parts without a fault

  module _ (fault : List ℕ → ℕ) (first : (s : List ℕ) → fault (take (size s) s) ≡ 0 → CutOff (take (size s) s)) where
    pub faultless_cut : (n : ℕ) (s : List ℕ) → All (λ (p : List ℕ). fault p ≡ 0) (cut size n s) → All CutOff (cut size n s)
    unfolding cut
    faultless_cut zero s h = tt
    faultless_cut (suc n) s h = (first s h.0, faultless_cut n (drop (size s) s) h.1)

pub neither_fault : (a b : ℕ) → cond (eqb a 0) b a ≡ 0 → (a ≡ 0) × (b ≡ 0)
neither_fault zero b e = (refl, e)
neither_fault (suc a) b e = let some : suc a ≡ 0 = rw (ne_eqb (suc a) 0 (λ z. omega arith)) at e in absurd (omega (arith, some))

module _ (fault : List ℕ → ℕ) where
  pub faults_none : (ps : List (List ℕ)) → All (λ (p : List ℕ). fault p ≡ 0) ps → first_fault fault ps ≡ 0
  unfolding first_fault
  faults_none [] h = refl
  faults_none (p ∷ ps) h = rw (eq-eqb (fault p) 0 h.0) (faults_none ps h.1)

  pub none_faulty : (ps : List (List ℕ)) → first_fault fault ps ≡ 0 → All (λ (p : List ℕ). fault p ≡ 0) ps
  unfolding first_fault
  none_faulty [] e = tt
  none_faulty (p ∷ ps) e =
      let q = neither_fault (fault p) (first_fault fault ps) e in
      (q.0, none_faulty ps q.1)

  -- ---- one part at a time

  pub fault_found : {qs ps : List (List ℕ)} {p : List ℕ} {n : ℕ} → qs ≡ p ∷ ps → fault p ≡ n → (n ≡ 0 → ⊥) → first_fault fault qs ≡ n
  unfolding first_fault
  fault_found {p = p} {n = n} e h some = rw (e, h, ne_eqb n 0 some)

  pub fault_next : {qs ps : List (List ℕ)} {p : List ℕ} → qs ≡ p ∷ ps → fault p ≡ 0 → first_fault fault qs ≡ first_fault fault ps
  unfolding first_fault
  fault_next {p = p} e h = rw (e, eq-eqb (fault p) 0 h)

pub flatten_next : {qs ps : List (List ℕ)} {p : List ℕ} → qs ≡ p ∷ ps → length (flatten qs) ≡ length p + length (flatten ps)
unfolding flatten
flatten_next {ps = ps} {p = p} e = rw e (length-append p (flatten ps))
