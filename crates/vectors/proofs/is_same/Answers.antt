-- `vectors::is_same`: a value is what its bits stand for.
use Rattle.std.proofs.Common.{◌≡◌, T, sym, ap, ◌∙◌, subst, eq-eqb, eqb-true}
use lib.Ieee.{Float, binary64, fits, of_bits, to_bits}
use lib.Ieee.Bits.{of_bits-to_bits}
use Rattle.vectors.proofs.is_same.Goals as goal

same_by_bits : (x y : Float) → T (fits binary64 x) → T (fits binary64 y) → to_bits binary64 x ≡ to_bits binary64 y → x ≡ y
same_by_bits x y f g e = sym (of_bits-to_bits binary64 x f) ∙ ap (of_bits binary64) e ∙ of_bits-to_bits binary64 y g

pub returns : goal.returns
returns c =
    let f = subst T (sym c.well_formed.0.1) tt in
    let g = subst T (sym c.well_formed.1.0.1) tt in
    rw (c.f64_to_bits_with_nan.ensures, c.f64_to_bits_with_nan-2.ensures) (λ yes. same_by_bits _ _ f g (eqb-true _ _ yes), λ e. eq-eqb _ _ (ap (to_bits binary64) e))
