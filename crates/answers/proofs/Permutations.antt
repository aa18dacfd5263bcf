-- Lists in another order: mapped, flattened, tested for any. Every order of a mapped list is that of a list in another
-- order, mapped.
use mathlib.Core.Path.{◌≡◌, refl, sym, ap, ap₂, ◌∙◌, subst}
use mathlib.Core.Bool.{Bool, true, false, ◌||◌}
use mathlib.Core.List.Permᴰ
use mathlib.Core.List.{List, [], ◌∷◌, ◌++◌, map, flatten, append_assoc, Permᴰ, head-eq_of_cons-eq, tail-eq_of_cons-eq}
use Prim.Native.Nat.{suc}
use native.Mathlib.Omega.{arith}
use lib.ListN.{length}
use Rattle.leaves.proofs.Folds.{All, all_append}
use Rattle.answers.specs.Lists.{any_of}

pub map_perm : {A B : Type 0} (f : A → B) {xs ys : List A} → Permᴰ xs ys → Permᴰ (map f xs) (map f ys)
map_perm f Permᴰ.nil = Permᴰ.nil
map_perm f (Permᴰ.cons e d) = Permᴰ.cons (ap f e) (map_perm f d)
map_perm f (Permᴰ.swap e₁ e₂) = Permᴰ.swap (ap f e₁) (ap f e₂)
map_perm f (Permᴰ.trans d₁ d₂) = Permᴰ.trans (map_perm f d₁) (map_perm f d₂)

-- a list whose image is put in another order is itself in an order that has this image
module _ {A B : Type 0} (f : A → B) where
  lift : {us ys : List B} → Permᴰ us ys → (xs : List A) → map f xs ≡ us → (zs : List A) × Permᴰ xs zs × (map f zs ≡ ys)
  lift Permᴰ.nil [] e = ([], Permᴰ.nil, refl)
  lift Permᴰ.nil (x ∷ xs) e = absurd (omega (arith, ap length e))
  lift (Permᴰ.cons h d) [] e = absurd (omega (arith, ap length e))
  lift (Permᴰ.cons h d) (x ∷ xs) e =
      let l = lift d xs (tail-eq_of_cons-eq e) in
      (x ∷ l.0, Permᴰ.cons refl l.1, λ i. (head-eq_of_cons-eq e ∙ h) i ∷ l.2 i)
  lift (Permᴰ.swap h₁ h₂) [] e = absurd (omega (arith, ap length e))
  lift (Permᴰ.swap h₁ h₂) (x ∷ []) e = absurd (omega (arith, ap length e))
  lift (Permᴰ.swap h₁ h₂) (x ∷ y ∷ xs) e =
      let e' = tail-eq_of_cons-eq e in
      (y ∷ x ∷ xs, Permᴰ.swap refl refl, λ i. (head-eq_of_cons-eq e' ∙ h₂) i ∷ (head-eq_of_cons-eq e ∙ h₁) i ∷ tail-eq_of_cons-eq e' i)
  lift (Permᴰ.trans d₁ d₂) xs e =
      let l = lift d₁ xs e in
      let m = lift d₂ l.0 l.2 in
      (m.0, Permᴰ.trans l.1 m.1, m.2)

  pub lift_perm : (xs : List A) {ys : List B} → Permᴰ (map f xs) ys → (zs : List A) × Permᴰ xs zs × (map f zs ≡ ys)
  lift_perm xs d = lift d xs refl

pub perm_length : {A : Type 0} {xs ys : List A} → Permᴰ xs ys → length xs ≡ length ys
perm_length Permᴰ.nil = refl
perm_length (Permᴰ.cons e d) = ap suc (perm_length d)
perm_length (Permᴰ.swap e₁ e₂) = refl
perm_length (Permᴰ.trans d₁ d₂) = perm_length d₁ ∙ perm_length d₂

-- equal lists
same : {A : Type 0} {xs ys : List A} → xs ≡ ys → Permᴰ xs ys
same {A} {xs} e = subst (Permᴰ xs) e (Permᴰ.refl xs)

-- two lists in front of a third change places
front : {A : Type 0} (xs ys zs : List A) → Permᴰ (xs ++ (ys ++ zs)) (ys ++ (xs ++ zs))
front xs ys zs =
    Permᴰ.trans (same (sym (append_assoc xs ys zs))) (Permᴰ.trans (Permᴰ.append_right zs (Permᴰ.append_comm xs ys)) (same (append_assoc ys xs zs)))

pub flatten_perm : {A : Type 0} {xs ys : List (List A)} → Permᴰ xs ys → Permᴰ (flatten xs) (flatten ys)
unfolding flatten
flatten_perm Permᴰ.nil = Permᴰ.nil
flatten_perm {A} (Permᴰ.cons {a = a} {l₂ = ys} e d) = Permᴰ.trans (Permᴰ.append_left a (flatten_perm d)) (same (ap (λ (l : List A). l ++ flatten ys) e))
flatten_perm {A} (Permᴰ.swap {a = a} {b = b} {l = l} e₁ e₂) =
    Permᴰ.trans (front a b (flatten l)) (same (ap₂ (λ (x y : List A). x ++ (y ++ flatten l)) e₂ e₁))
flatten_perm (Permᴰ.trans d₁ d₂) = Permᴰ.trans (flatten_perm d₁) (flatten_perm d₂)

or_swap : (a b r : Bool) → (a || (b || r)) ≡ (b || (a || r))
or_swap true true r = refl
or_swap true false r = refl
or_swap false b r = refl

pub any_of_perm : {A : Type 0} (test : A → Bool) {xs ys : List A} → Permᴰ xs ys → any_of test xs ≡ any_of test ys
any_of_perm test Permᴰ.nil = refl
any_of_perm test (Permᴰ.cons e d) = ap₂ ◌||◌ (ap test e) (any_of_perm test d)
any_of_perm test (Permᴰ.swap {a = a} {b = b} {l = l} e₁ e₂) =
    or_swap (test a) (test b) (any_of test l) ∙ ap₂ (λ (x y : Bool). x || (y || any_of test l)) (ap test e₂) (ap test e₁)
any_of_perm test (Permᴰ.trans d₁ d₂) = any_of_perm test d₁ ∙ any_of_perm test d₂

-- ---- what holds of every element

pub all_map : {A B : Type 0} (Q : B → Type 0) (f : A → B) (xs : List A) → All (λ (x : A). Q (f x)) xs → All Q (map f xs)
all_map Q f [] h = tt
all_map Q f (x ∷ xs) h = (h.0, all_map Q f xs h.1)

pub all_weaken : {A : Type 0} (P Q : A → Type 0) → ((a : A) → P a → Q a) → (xs : List A) → All P xs → All Q xs
all_weaken P Q k [] h = tt
all_weaken P Q k (x ∷ xs) h = (k x h.0, all_weaken P Q k xs h.1)

pub all_flatten : {A : Type 0} (Q : A → Type 0) (xs : List (List A)) → All (All Q) xs → All Q (flatten xs)
unfolding flatten
all_flatten Q [] h = tt
all_flatten Q (x ∷ xs) h = all_append Q x (flatten xs) h.0 (all_flatten Q xs h.1)
