-- Tests of any, of a list on which the test passes nowhere.
use mathlib.Core.Path.{◌≡◌, refl}
use mathlib.Core.Bool.{Bool, true, false, ◌||◌, true≢false}
use mathlib.Core.List.{List, [], ◌∷◌}
use Rattle.leaves.proofs.Folds.{All}
use Rattle.answers.specs.Lists.{any_of}

pub neither : (a b : Bool) → (a || b) ≡ false → (a ≡ false) × (b ≡ false)
neither false b e = (refl, e)
neither true b e = absurd (true≢false e)

pub any_false : {A : Type 0} (test : A → Bool) (xs : List A) → any_of test xs ≡ false → All (λ (x : A). test x ≡ false) xs
any_false test [] e = tt
any_false test (x ∷ xs) e =
    let p = neither (test x) (any_of test xs) e in
    (p.0, any_false test xs p.1)
