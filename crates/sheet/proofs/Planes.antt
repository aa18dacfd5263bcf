-- What a sheet says beside its rings, each where it stands: the kind, and a plane's nine numbers.
use mathlib.Core.Path.{◌≡◌, refl, ap, ◌∙◌}
use mathlib.Core.List.{List}
use Prim.Native.Nat.{ℕ, zero, suc, ◌+◌, ◌*◌, ◌<◌}
use native.Mathlib.Omega.{arith}
use lib.Ieee.{Float}
use lib.ListN.{get_or, drop}
use lib.Seq.{drop-drop}
use Rattle.sheet.specs.Layout.{sense, kind, number, numbers, sheet_of}
use Rattle.sheet.proofs.Walks.{plane_of_lem}

-- the number in place k of n
pub numbers_at : (n : ℕ) (s : List ℕ) (k : ℕ) (d : Float) → k < n → get_or (numbers n s) k d ≡ number (drop (8 * k) s)
unfolding numbers
numbers_at zero s k d h = absurd (omega arith)
numbers_at (suc n) s zero d h = refl
numbers_at (suc n) s (suc k) d h =
    let e : 8 + 8 * k ≡ 8 * suc k = omega arith in
    numbers_at n (drop 8 s) k d (omega arith) ∙ ap number (drop-drop (8 * k) 8 s ∙ ap (λ (i : ℕ). drop i s) e)

pub sheet_kind : (s : List ℕ) → (sheet_of s).kind ≡ kind s
unfolding sheet_of
sheet_kind s = refl

pub sheet_sense : (s : List ℕ) → (sheet_of s).sense ≡ sense s
unfolding sheet_of
sheet_sense s = refl

pub sheet_plane : (s : List ℕ) → kind s ≡ 0 → (sheet_of s).plane ≡ numbers 9 (drop 8 s)
unfolding sheet_of
sheet_plane s e = plane_of_lem s e
