-- A ring's segments, whatever its points are: how many there are, and a fold over them, one at a time.
use mathlib.Core.Path.{◌≡◌, refl, sym, ap}
use mathlib.Core.List.{List, [], ◌∷◌, foldl}
use Prim.Native.Nat.{suc}
use lib.ListN.{length}
use Rattle.points.specs.Segments.{Between, between, segments_from, segments}

-- ---- how many there are

segments_from_count : {A : Type 0} (first a : A) (ps : List A) → length (segments_from first a ps) ≡ suc (length ps)
unfolding segments_from
segments_from_count first a [] = refl
segments_from_count first a (b ∷ ps) = rw (segments_from_count first b ps)

-- as many segments as points
pub segments_count : {A : Type 0} (ring : List A) → length (segments ring) ≡ length ring
unfolding segments
segments_count [] = refl
segments_count (p ∷ ps) = segments_from_count p p ps

-- ---- a fold over the segments

module _ {A S : Type 0} (step : S → Between A → S) where
  pub rest_none : {ring : List A} (s : S) → ring ≡ [] → foldl step s (segments ring) ≡ s
  unfolding segments
  rest_none s e = ap (λ (ps : List A). foldl step s (segments ps)) e

  module _ (first : A) where
    -- over those left when the points after a are `rest`, the closing one among them
    abbrev pub fold_rest : S → A → List A → S
    fold_rest s a rest = foldl step s (segments_from first a rest)

    pub rest_start : {ring rest : List A} (s : S) → ring ≡ first ∷ rest → fold_rest s first rest ≡ foldl step s (segments ring)
    unfolding segments
    rest_start s e = sym (ap (λ (ps : List A). foldl step s (segments ps)) e)

    pub rest_step : {rest rest' : List A} {b : A} (s : S) (a : A) → rest ≡ b ∷ rest' → fold_rest s a rest ≡ fold_rest (step s (between a b)) b rest'
    unfolding segments_from
    rest_step s a e = ap (fold_rest s a) e

    pub rest_end : {rest : List A} (s : S) (a : A) → rest ≡ [] → fold_rest s a rest ≡ step s (between a first)
    unfolding segments_from
    rest_end s a e = ap (fold_rest s a) e
