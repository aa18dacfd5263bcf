-- `physical::near_segments::Reach::is_near` is `is_near`: where the key of x and y reaches `far` the distance is above
-- the limit, and else it is worked out and held against it.
use mathlib.Core.Path.{◌≡◌, refl, sym, ap, subst, ◌∙◌}
use mathlib.Core.Bool.{Bool, true, false}
use lib.Dec.{T}
use lib.Ieee.{Float, le}
use Rattle.leaves.specs.Hypot.{key_of, hypot_of_key, hypot_of}
use Rattle.leaves.proofs.Hypotenuses.{hypot_by_key, hypot3_by_key}
use Rattle.space.specs.declared.vectors.Place.{Place}
use Rattle.points.specs.Segments.{Between}
use Rattle.physical.specs.Space.{residual, distance}
use Rattle.physical.specs.Stages.{Far, is_near}
use Rattle.physical.proofs.near_segments.Reach.is_near.Goals as goal

-- a test that cannot pass
refused : (b : Bool) → (T b → ⊥) → false ≡ b
refused true h = absurd (h tt)
refused false h = refl

module _ (limit : Float) (p : Place) (s : Between Place) where
  is_far : (k : Float) → Far limit k → le k (key_of (residual p s).x (residual p s).y) ≡ true → false ≡ is_near limit p s
  unfolding is_near distance
  is_far k far e = refused (le (distance p s) limit) (far.beyond (residual p s).x (residual p s).y (residual p s).z (subst T (sym e) tt))

  measured : le (hypot_of (hypot_of_key (key_of (residual p s).x (residual p s).y)) (residual p s).z) limit ≡ is_near limit p s
  unfolding is_near distance
  measured = ap (λ (d : Float). le d limit) (ap (λ (h : Float). hypot_of h (residual p s).z) (sym (hypot_by_key (residual p s).x (residual p s).y)) ∙ hypot_by_key _ _ ∙ sym (hypot3_by_key (residual p s).x (residual p s).y (residual p s).z))

pub returns-then-self-key : goal.returns-then-self-key
returns-then-self-key c =
    let x = c.args in
    is_far x.self.limit x.p x.s x.self.far x.self.is_far
    (ap (le x.self.far) (ap (λ (d : Place). key_of d.x d.y) (sym c.residual-rest.ensures) ∙ sym c.key-key.ensures) ∙ c.if-self-key.true)

pub returns : goal.returns
returns c =
    let x = c.args in
    rw (c.hypot.ensures, c.hypot_of_key.ensures, c.key-key.ensures, c.residual-rest.ensures) (measured x.self.limit x.p x.s)
