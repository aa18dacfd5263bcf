-- Document 01, "Kind: 0 plane, 1 cylinder, 2 cone, 3 sphere, 4 torus, 5 NURBS, 6 other": a kind as its byte.
use Rattle.std.specs.Prelude.{ℕ, zero, suc, ◌<◌, ◌≡◌}
use Rattle.std.proofs.Common.{refl, arith}
use Rattle.sheet.specs.declared.kind.Named.{Named}
use Rattle.sheet.specs.declared.kind.Named.TheVariants.{Plane, Cylinder, Cone, Sphere, Torus, Nurbs, Other, Unknown}

unfoldable pub kind_number : Named → ℕ
kind_number Plane = 0
kind_number Cylinder = 1
kind_number Cone = 2
kind_number Sphere = 3
kind_number Torus = 4
kind_number Nurbs = 5
kind_number Other = 6
kind_number (Unknown byte) = byte

-- a number below 7 is always said by its name
unfoldable pub is_kind : Named → Type 0
is_kind Plane = Unit {0}
is_kind Cylinder = Unit {0}
is_kind Cone = Unit {0}
is_kind Sphere = Unit {0}
is_kind Torus = Unit {0}
is_kind Nurbs = Unit {0}
is_kind Other = Unit {0}
is_kind (Unknown byte) = 6 < byte

-- the kind of a number
unfoldable pub kind_named : ℕ → Named
kind_named zero = Plane
kind_named (suc zero) = Cylinder
kind_named (suc (suc zero)) = Cone
kind_named (suc (suc (suc zero))) = Sphere
kind_named (suc (suc (suc (suc zero)))) = Torus
kind_named (suc (suc (suc (suc (suc zero))))) = Nurbs
kind_named (suc (suc (suc (suc (suc (suc zero)))))) = Other
kind_named (suc (suc (suc (suc (suc (suc (suc n))))))) = Unknown (suc (suc (suc (suc (suc (suc (suc n)))))))

-- a kind is told by its number
pub kind_again : (k : Named) → is_kind k → kind_named (kind_number k) ≡ k
unfolding is_kind kind_named kind_number
kind_again Plane h = refl
kind_again Cylinder h = refl
kind_again Cone h = refl
kind_again Sphere h = refl
kind_again Torus h = refl
kind_again Nurbs h = refl
kind_again Other h = refl
kind_again (Unknown (suc (suc (suc (suc (suc (suc (suc n)))))))) h = refl
kind_again (Unknown zero) h = absurd (omega (arith, h))
kind_again (Unknown (suc zero)) h = absurd (omega (arith, h))
kind_again (Unknown (suc (suc zero))) h = absurd (omega (arith, h))
kind_again (Unknown (suc (suc (suc zero)))) h = absurd (omega (arith, h))
kind_again (Unknown (suc (suc (suc (suc zero))))) h = absurd (omega (arith, h))
kind_again (Unknown (suc (suc (suc (suc (suc zero)))))) h = absurd (omega (arith, h))
kind_again (Unknown (suc (suc (suc (suc (suc (suc zero))))))) h = absurd (omega (arith, h))
