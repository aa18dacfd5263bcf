-- `sorted_of` sorts: its numbers are those of the list, and of numbers, that is values of the format that are no NaN,
-- none precedes any before it. The angles that a call sorts are such numbers, so its corner angles are in order. No
-- other list of these numbers is in order.
use mathlib.Core.Path.{◌≡◌, refl, sym, ap, ◌∙◌}
use mathlib.Core.Bool.{Bool, true, false, cond, true≢false}
use mathlib.Core.List.Permᴰ
use mathlib.Core.List.{List, [], ◌∷◌, ◌++◌, map, foldl, Permᴰ}
use Prim.Native.Nat.{ℕ, ◌+◌, ◌<◌}
use native.Mathlib.Numerals.{unary_clauses}
use native.Mathlib.Omega.{arith}
use lib.Dec.{T}
use lib.Ieee.{Float, nan, of_bits}
use lib.Ieee.Scale.{finite}
use lib.ListN.{length, get_or}
use Rattle.leaves.specs.Wrap.{rem_tau}
use Rattle.leaves.proofs.Folds.{All, all_perm, fold_keeps}
use Rattle.leaves.proofs.Wraps.{rem_tau_fits, rem_tau_number}
use Rattle.answers.specs.Limits.{beyond, argument_limit}
use Rattle.answers.specs.Lists.{any_of}
use Rattle.answers.proofs.AnyOf.{neither, any_false}
use Rattle.answers.proofs.Finite.{not_beyond_finite}
use Rattle.std.specs.List.{AllByRecursion, sum_by}
use Rattle.std.specs.List.Sorted.{IsPermutation}
use Rattle.std.proofs.Common.{is_lt}
use Rattle.std.proofs.lemmas.List.Elements.{recursion_from_All, All-from_recursion, All-get_or}
use Rattle.std.proofs.lemmas.List.Sorted.{All-permutation, sum_by-IsPermutation}
use Rattle.std.proofs.lemmas.List.Sums.{sum_by-cons}
use Rattle.round_fallback.specs.Cylinder.{precedes, insert_of, sorted_of, is_near, kept_after, kept_of, corner_angles, round_wrong}
use Rattle.round_fallback.specs.Sorted.{Numeric, Ordered}
use Rattle.round_fallback.proofs.Preceding.{precedes_asym, precedes_not_trans, level_same, key_order, not_less}

-- ---- the same numbers

insert_perm : (x : Float) (ys : List Float) → Permᴰ (insert_of x ys) (x ∷ ys)
unfolding insert_of
insert_perm x [] = Permᴰ.refl (x ∷ [])
insert_perm x (y ∷ ys) = by (precedes x y) (insert_perm x ys)
  where
    by : (b : Bool) → Permᴰ (insert_of x ys) (x ∷ ys) → Permᴰ (cond b (x ∷ y ∷ ys) (y ∷ insert_of x ys)) (x ∷ y ∷ ys)
    by true d = Permᴰ.refl (x ∷ y ∷ ys)
    by false d = Permᴰ.trans (Permᴰ.cons refl d) (Permᴰ.swap refl refl)

-- the rest put in their places among those that are in order
abbrev sort_from : List Float → List Float → List Float
sort_from ys xs = foldl (λ (zs : List Float) (x : Float). insert_of x zs) ys xs

from_perm : (xs ys : List Float) → Permᴰ (sort_from ys xs) (xs ++ ys)
from_perm [] ys = Permᴰ.refl ys
from_perm (x ∷ xs) ys = Permᴰ.trans (from_perm xs (insert_of x ys)) (Permᴰ.trans (Permᴰ.append_left xs (insert_perm x ys)) (Permᴰ.middle x xs ys))

pub sorted_perm : (xs : List Float) → Permᴰ (sorted_of xs) xs
unfolding sorted_of
sorted_perm xs = Permᴰ.trans (from_perm xs []) (Permᴰ.append-nil xs)

-- ---- in order

-- `Ordered` and what holds of each number, in the word `All` of the leaves' laws
abbrev InOrder : List Float → Type 0
InOrder [] = Unit {0}
InOrder (x ∷ xs) = All (λ (y : Float). precedes y x ≡ false) xs × InOrder xs

each : (Q : Float → Type 0) (xs : List Float) → All Q xs → AllByRecursion Q xs
each Q [] h = tt
each Q (x ∷ xs) h = (h.0, each Q xs h.1)

all : (Q : Float → Type 0) (xs : List Float) → AllByRecursion Q xs → All Q xs
all Q [] h = tt
all Q (x ∷ xs) h = (h.0, all Q xs h.1)

ordered : (xs : List Float) → InOrder xs → Ordered xs
ordered [] h = tt
ordered (x ∷ xs) h = (each (λ (y : Float). precedes y x ≡ false) xs h.0, ordered xs h.1)

insert_all : (Q : Float → Type 0) (x : Float) (ys : List Float) → Q x → All Q ys → All Q (insert_of x ys)
insert_all Q x ys p h = all_perm Q (Permᴰ.symm (insert_perm x ys)) (p, h)

insert_ordered : (x : Float) (ys : List Float) → Numeric x → All Numeric ys → InOrder ys → InOrder (insert_of x ys)
unfolding insert_of
insert_ordered x [] n ns h = (tt, tt)
insert_ordered x (y ∷ ys) n ns h = by (precedes x y) refl (insert_ordered x ys n ns.1 h.1)
  where
    -- what does not precede y does not precede x
    past : precedes y x ≡ false → (zs : List Float) → All Numeric zs → All (λ (z : Float). precedes z y ≡ false) zs → All (λ (z : Float). precedes z x ≡ false) zs
    past e [] ms k = tt
    past e (z ∷ zs) ms k = (precedes_not_trans x y z n ns.0 ms.0 e k.0, past e zs ms.1 k.1)

    by : (b : Bool) → precedes x y ≡ b → InOrder (insert_of x ys) → InOrder (cond b (x ∷ y ∷ ys) (y ∷ insert_of x ys))
    by true e k = let f = precedes_asym x y e in ((f, past f ys ns.1 h.0), h)
    by false e k = (insert_all (λ (z : Float). precedes z y ≡ false) x ys e h.0, k)

sorted_in_order : (xs : List Float) → All Numeric xs → InOrder (sorted_of xs)
unfolding sorted_of
sorted_in_order xs h =
    (fold_keeps (λ (zs : List Float) (x : Float). insert_of x zs) (λ (zs : List Float). All Numeric zs × InOrder zs) Numeric
    (λ zs x p n. (insert_all Numeric x zs n p.0, insert_ordered x zs n p.0 p.1))
    xs h [] (tt, tt)).1

pub sorted_ordered : (xs : List Float) → AllByRecursion Numeric xs → Ordered (sorted_of xs)
sorted_ordered xs h = ordered (sorted_of xs) (sorted_in_order xs (all Numeric xs h))

-- ---- no other list is in order with the same numbers

-- none of those that come after y, which x precedes, is at most x
above : (x y : Float) → Numeric x → Numeric y → precedes x y ≡ true → (zs : List Float) → All Numeric zs → All (λ (z : Float). precedes z y ≡ false) zs → All (λ (z : Float). precedes x z ≡ true) zs
above x y hx hy t [] ns h = tt
above x y hx hy t (z ∷ zs) ns h = (by (precedes x z) refl, above x y hx hy t zs ns.1 h.1)
  where
    by : (b : Bool) → precedes x z ≡ b → b ≡ true
    by true e = refl
    by false e = absurd (true≢false (sym t ∙ precedes_not_trans y z x hy ns.0 hx h.0 e))

-- 1 for a number that x does not precede
abbrev unless : Bool → ℕ
unless true = 0
unless false = 1

abbrev at_most : Float → Float → ℕ
at_most x z = unless (precedes x z)

none_at_most : (x : Float) (zs : List Float) → All (λ (z : Float). precedes x z ≡ true) zs → sum_by (at_most x) zs ≡ 0
none_at_most x [] h = refl
none_at_most x (z ∷ zs) h =
    let none : at_most x z ≡ 0 = ap unless h.0 in
    omega (arith, sum_by-cons (at_most x) z zs, none_at_most x zs h.1)

itself : (x : Float) → at_most x x ≡ 1
itself x = by (precedes x x) refl
  where
    by : (b : Bool) → precedes x x ≡ b → unless b ≡ 1
    by true e = absurd (true≢false (sym e ∙ precedes_asym x x e))
    by false e = refl

-- the first of a list in order precedes no number of another with the same numbers
not_below : (x y : Float) (xs ys : List Float) → Numeric x → All Numeric (y ∷ ys) → InOrder (y ∷ ys) → ((f : Float → ℕ) → sum_by f (x ∷ xs) ≡ sum_by f (y ∷ ys)) → precedes x y ≡ false
not_below x y xs ys hx hy o same = by (precedes x y) refl
  where
    by : (b : Bool) → precedes x y ≡ b → b ≡ false
    by false e = refl
    by true e =
        absurd (let none = none_at_most x (y ∷ ys) (e, above x y hx hy.0 e ys hy.1 o.0) in
        omega (arith, same (at_most x), sum_by-cons (at_most x) x xs, itself x))

one_order : (xs ys : List Float) → All Numeric xs → All Numeric ys → InOrder xs → InOrder ys → ((f : Float → ℕ) → sum_by f xs ≡ sum_by f ys) → xs ≡ ys
one_order [] [] ns ms o p same = refl
one_order [] (y ∷ ys) ns ms o p same = absurd (omega (arith, same (λ (z : Float). 1), sum_by-cons (λ (z : Float). 1) y ys))
one_order (x ∷ xs) [] ns ms o p same = absurd (omega (arith, same (λ (z : Float). 1), sum_by-cons (λ (z : Float). 1) x xs))
one_order (x ∷ xs) (y ∷ ys) ns ms o p same =
    let e : x ≡ y = level_same x y ns.0 ms.0 (not_below x y xs ys ns.0 ms p same) (not_below y x ys xs ms.0 ns o (λ f. sym (same f))) in
    let rest : (f : Float → ℕ) → sum_by f xs ≡ sum_by f ys = λ f. omega (arith, same f, sum_by-cons f x xs, sum_by-cons f y ys, ap f e) in
    λ i. e i ∷ one_order xs ys ns.1 ms.1 o.1 p.1 rest i

-- each step of a list in order
later_all : (y z : Float) (zs : List Float) → All Numeric (y ∷ z ∷ zs) → precedes z y ≡ false → All (λ (w : Float). precedes w z ≡ false) zs → All (λ (w : Float). precedes w y ≡ false) zs
later_all y z [] ns e h = tt
later_all y z (w ∷ zs) ns e h = (precedes_not_trans y z w ns.0 ns.1.0 ns.1.1.0 e h.0, later_all y z zs (ns.0, (ns.1.0, ns.1.1.1)) e h.1)

in_order : (ys : List Float) → All Numeric ys → ((k : ℕ) → k + 1 < length ys → precedes (get_or ys (k + 1) nan) (get_or ys k nan) ≡ false) → InOrder ys
in_order [] ns h = tt
in_order (y ∷ []) ns h = (tt, tt)
in_order (y ∷ z ∷ zs) ns h =
    let e : precedes z y ≡ false = h 0 (omega arith) in
    let rest : InOrder (z ∷ zs) = in_order (z ∷ zs) ns.1 (λ k lt. simp unary_clauses (simp unary_clauses at (h (k + 1) (omega arith)))) in
    ((e, later_all y z zs ns e rest.0), rest)

sum_by_perm : (f : Float → ℕ) {xs ys : List Float} → Permᴰ xs ys → sum_by f xs ≡ sum_by f ys
sum_by_perm f Permᴰ.nil = refl
sum_by_perm f (Permᴰ.cons {a = a} {b = b} {l₁ = xs} {l₂ = ys} e d) = omega (arith, sum_by-cons f a xs, sum_by-cons f b ys, ap f e, sum_by_perm f d)
sum_by_perm f (Permᴰ.swap {a = a} {b = b} {a' = c} {b' = d} {l = l} e₁ e₂) =
    omega (arith, sum_by-cons f a (b ∷ l), sum_by-cons f b l, sum_by-cons f c (d ∷ l), sum_by-cons f d l, ap f e₁, ap f e₂)
sum_by_perm f (Permᴰ.trans d₁ d₂) = sum_by_perm f d₁ ∙ sum_by_perm f d₂

-- what the library's sort by `key_order` leaves of numbers
pub sorted_alone : (xs ys : List Float) → AllByRecursion Numeric xs → IsPermutation xs ys → ((k : ℕ) → k + 1 < length ys → is_lt (key_order (get_or ys (k + 1) nan) (get_or ys k nan)) ≡ false) → ys ≡ sorted_of xs
sorted_alone xs ys h same steps =
    let ns : All Numeric xs = all Numeric xs h in
    let each_of = All-permutation Numeric xs ys same (All-from_recursion Numeric xs h) in
    let at : (k : ℕ) → k < length ys → Numeric (get_or ys k nan) = λ k lt. All-get_or Numeric ys k nan lt each_of in
    let ms : All Numeric ys = all Numeric ys (recursion_from_All Numeric ys each_of) in
    one_order ys (sorted_of xs) ms (all_perm Numeric (Permᴰ.symm (sorted_perm xs)) ns)
    (in_order ys ms (λ k lt. not_less (get_or ys k nan) (get_or ys (k + 1) nan) (at k (omega arith)) (at (k + 1) lt) (steps k lt)))
    (sorted_in_order xs ns)
    (λ f. sum_by-IsPermutation f xs ys same ∙ sym (sum_by_perm f (sorted_perm xs)))

-- ---- the corner angles of a call

limit_finite : T (finite argument_limit)
unfolding of_bits
limit_finite = tt

turned : (angles : List Float) → All (λ (x : Float). beyond argument_limit x ≡ false) angles → All Numeric (map rem_tau angles)
turned [] h = tt
turned (x ∷ xs) h = ((rem_tau_fits x, rem_tau_number x (not_beyond_finite argument_limit x limit_finite h.0)), turned xs h.1)

kept_all : (Q : Float → Type 0) (last : Float) (xs : List Float) → All Q xs → All Q (kept_after last xs)
unfolding kept_after
kept_all Q last [] h = tt
kept_all Q last (x ∷ xs) h = by (is_near x last) (kept_all Q last xs h.1) (h.0, kept_all Q x xs h.1)
  where
    by : (b : Bool) → All Q (kept_after last xs) → All Q (x ∷ kept_after x xs) → All Q (cond b (kept_after last xs) (x ∷ kept_after x xs))
    by true p q = p
    by false p q = q

kept_ordered : (last : Float) (xs : List Float) → InOrder xs → InOrder (kept_after last xs)
unfolding kept_after
kept_ordered last [] h = tt
kept_ordered last (x ∷ xs) h = by (is_near x last) (kept_ordered last xs h.1) (kept_all (λ (y : Float). precedes y x ≡ false) x xs h.0, kept_ordered x xs h.1)
  where
    by : (b : Bool) → InOrder (kept_after last xs) → InOrder (x ∷ kept_after x xs) → InOrder (cond b (kept_after last xs) (x ∷ kept_after x xs))
    by true p q = p
    by false p q = q

kept_of_ordered : (xs : List Float) → InOrder xs → InOrder (kept_of xs)
unfolding kept_of
kept_of_ordered [] h = tt
kept_of_ordered (x ∷ xs) h = (kept_all (λ (y : Float). precedes y x ≡ false) x xs h.0, kept_ordered x xs h.1)

module _ (heights angles : List Float) (passed : round_wrong heights angles ≡ false) where
  -- where 16 does not hold
  pub turned_numeric : AllByRecursion Numeric (map rem_tau angles)
  unfolding round_wrong
  turned_numeric =
      each Numeric (map rem_tau angles) (turned angles (any_false (beyond argument_limit) angles (neither (any_of (beyond argument_limit) heights) (any_of (beyond argument_limit) angles) passed).1))

  pub corners_ordered : Ordered (corner_angles angles)
  unfolding corner_angles
  corners_ordered =
      let corners = sorted_in_order (map rem_tau angles) (all Numeric (map rem_tau angles) turned_numeric) in
      ordered (kept_of (sorted_of (map rem_tau angles))) (kept_of_ordered (sorted_of (map rem_tau angles)) corners)
