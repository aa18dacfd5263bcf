-- The rounded operations keep the order. Two signed fractions in order round to values in order, overflow to an
-- infinity included: the magnitudes do, the other sign turns them
-- round, and at the middle a zero of either sign equals the other. A sum is a signed fraction rounded once, and so is a
-- product with or a quotient by a value above 0: each keeps the order
-- because its exact fraction does, and a square where there is no sign. An infinity among the operands stays at its end
-- of the order; a sum is a NaN only of two opposite infinities.
use Rattle.std.proofs.Common.{◌≡◌, ℕ, ◌+◌, ◌-◌, ◌*◌, ◌<◌, ◌≤◌, Bool, true, false, cond, not, T, ltb, ℤ, pos, sym, refl, ap, ◌∙◌, subst, subst₂, true≢false, mul_comm, mul-le-mul, mul-pos, arith, ltb→lt, nltb→le}
use native.Mathlib.Nat.{mul-mul-mul_comm}
use lib.Ieee.{Float, nan, inf, fin, Format, up, down, round, neg, sum, add, sub, mul, div, is_nan, le}
use lib.Ieee.Fits.{down_pos}
use lib.Ieee.Order.{round_mono}
use lib.Ieee.Positive.{positive, num, den, den_pos}
use lib.Ieee.Scale.{finite}
use Rattle.leaves.proofs.Fractions.{Ordered, Sums, le→ordered, neg_mono, none_left, ordered→le, ordered_scaled, sums_ordered, sums_scaled}
use Rattle.leaves.proofs.Patterns.{add_number, round_number}
use Rattle.leaves.proofs.Order.{highest, le_left, le_right, le_self, lowest, neg_finite}
use Rattle.leaves.proofs.Scaling.{div_of_finite, div_of_inf, mul_of_finite, mul_of_inf, size_above}
use Rattle.leaves.proofs.Signs.{neg_round, round_of_none, round_sign}
use Rattle.leaves.proofs.Values.{sign}

-- ---- a signed fraction, rounded

le_by_signs : (x y : Float) → T (not (is_nan x)) → T (not (is_nan y)) → sign x ≡ true → sign y ≡ false → T (le x y)
unfolding is_nan le
le_by_signs nan y n o p q = absurd n
le_by_signs (inf false) y n o p q = absurd (true≢false (sym p))
le_by_signs (inf true) nan n o p q = absurd o
le_by_signs (inf true) (inf true) n o p q = absurd (true≢false q)
le_by_signs (inf true) (inf false) n o p q = tt
le_by_signs (inf true) (fin t k d) n o p q = tt
le_by_signs (fin false m e) y n o p q = absurd (true≢false (sym p))
le_by_signs (fin true m e) nan n o p q = absurd o
le_by_signs (fin true m e) (inf true) n o p q = absurd (true≢false q)
le_by_signs (fin true m e) (inf false) n o p q = tt
le_by_signs (fin true m e) (fin true k d) n o p q = absurd (true≢false q)
le_by_signs (fin true m e) (fin false k d) n o p q = ordered→le true m e false k d tt

zeros_level : T (le (fin false 0 (pos 0)) (fin true 0 (pos 0)))
unfolding le
zeros_level = tt

pub round_ordered : (f : Format) (s t : Bool) (a c b d : ℕ) → 0 < c → 0 < d → Ordered s (a * d) t (b * c) → T (le (round f s a c) (round f t b d))
round_ordered f false false a c b d C D h = round_mono f a c b d C D h
round_ordered f false true a c b d C D h =
    let p : a ≡ 0 = none_left a d D (omega arith) in
    let q : b ≡ 0 = none_left b c C (omega arith) in
    subst₂ (λ (x y : Float). T (le x y)) (sym (ap (λ (z : ℕ). round f false z c) p ∙ round_of_none f false c C)) (sym (ap (λ (z : ℕ). round f true z d) q ∙ round_of_none f true d D)) zeros_level
round_ordered f true false a c b d C D h = le_by_signs (round f true a c) (round f false b d) (round_number f true a c) (round_number f false b d) (round_sign f true a c) (round_sign f false b d)
round_ordered f true true a c b d C D h =
    subst₂ (λ (x y : Float). T (le x y)) (sym (neg_round f false a c)) (sym (neg_round f false b d)) (neg_mono (round f false b d) (round f false a c) (round_mono f b d a c D C h))

-- ---- sums

-- x is ±a / c + ±b / c, rounded
record Total (f : Format) (x : Float) (s : Bool) (a : ℕ) (t : Bool) (b c : ℕ) : Type 0 where
  side : Bool
  size : ℕ
  is : x ≡ round f side size c
  sums : Sums side size s a t b

total : (f : Format) (s : Bool) (a : ℕ) (t : Bool) (b c : ℕ) → Total f (sum f s a t b c) s a t b c
unfolding sum
total f false a false b c = record { side = false; size = a + b; is = refl; sums = record { level = omega arith } }
total f true a true b c = record { side = true; size = a + b; is = refl; sums = record { level = omega arith } }
total f false a true b c = go (ltb a b) (ltb→lt a b) (nltb→le a b)
  where
    go : (less : Bool) → (T less → a < b) → (T (not less) → b ≤ a) → Total f (cond less (round f true (b - a) c) (round f false (a - b) c)) false a true b c
    go true h k = let l = h tt in record { side = true; size = b - a; is = refl; sums = record { level = omega arith } }
    go false h k = let l = k tt in record { side = false; size = a - b; is = refl; sums = record { level = omega arith } }
total f true a false b c = go (ltb a b) (ltb b a) (ltb→lt a b) (nltb→le a b) (nltb→le b a)
  where
    go : (less more : Bool) → (T less → a < b) → (T (not less) → b ≤ a) → (T (not more) → a ≤ b) → Total f (cond less (round f false (b - a) c) (round f more (a - b) c)) true a false b c
    go true more h k j = let l = h tt in record { side = false; size = b - a; is = refl; sums = record { level = omega arith } }
    go false true h k j = let l = k tt in record { side = true; size = a - b; is = refl; sums = record { level = omega arith } }
    go false false h k j = let l = k tt in let m = j tt in record { side = false; size = a - b; is = refl; sums = record { level = omega arith } }

add_total : (f : Format) (s : Bool) (m : ℕ) (e : ℤ) (t : Bool) (n : ℕ) (d : ℤ) → Total f (add f (fin s m e) (fin t n d)) s (m * up e * down d) t (n * up d * down e) (down e * down d)
unfolding add
add_total f s m e t n d = total f s (m * up e * down d) t (n * up d * down e) (down e * down d)

-- a / w ≤ b / x, each over the denominators of both sums, w * y and x * z
over_both : (s t : Bool) (a b w x y z : ℕ) → Ordered s (a * x) t (b * w) → Ordered s (a * y * (x * z)) t (b * z * (w * y))
over_both s t a b w x y z h =
    subst₂ (λ (i j : ℕ). Ordered s i t j) (mul-mul-mul_comm a x y z) (ap (λ (i : ℕ). b * w * i) (mul_comm y z) ∙ mul-mul-mul_comm b w z y) (ordered_scaled s t (a * x) (b * w) (y * z) h)

add_finite : (f : Format) (s : Bool) (m : ℕ) (e : ℤ) (t : Bool) (n : ℕ) (d : ℤ) (u : Bool) (k : ℕ) (g : ℤ) (v : Bool) (l : ℕ) (h : ℤ)
    → T (le (fin s m e) (fin t n d)) → T (le (fin u k g) (fin v l h)) → T (le (add f (fin s m e) (fin u k g)) (add f (fin t n d) (fin v l h)))
add_finite f s m e t n d u k g v l h p q =
    let i = add_total f s m e u k g in
    let j = add_total f t n d v l h in
    subst₂ (λ (x y : Float). T (le x y)) (sym i.is) (sym j.is)
    (round_ordered f i.side j.side i.size (down e * down g) j.size (down d * down h) (mul-pos (down_pos e) (down_pos g)) (mul-pos (down_pos d) (down_pos h))
    (sums_ordered (sums_scaled (down d * down h) i.sums) (sums_scaled (down e * down g) j.sums) (over_both s t (m * up e) (n * up d) (down e) (down d) (down g) (down h) (le→ordered s m e t n d p))
    (subst₂ (λ (x y : ℕ). Ordered u (k * up g * down e * x) v (l * up h * down d * y)) (mul_comm (down h) (down d)) (mul_comm (down g) (down e)) (over_both u v (k * up g) (l * up h) (down g) (down h) (down e) (down d) (le→ordered u k g v l h q)))))

-- a sum of an infinity and its opposite is a NaN; where neither sum is one, x + c ≤ y + d
pub add_le : (f : Format) (x y c d : Float) → T (not (is_nan (add f x c))) → T (not (is_nan (add f y d))) → T (le x y) → T (le c d) → T (le (add f x c) (add f y d))
unfolding add is_nan le
add_le f nan y c d n o l k = absurd l
add_le f (inf true) y nan d n o l k = absurd n
add_le f (inf true) y (inf true) d n o l k = lowest (add f y d) o
add_le f (inf true) y (inf false) d n o l k = absurd n
add_le f (inf true) y (fin u i g) d n o l k = lowest (add f y d) o
add_le f (inf false) nan c d n o l k = absurd l
add_le f (inf false) (inf true) c d n o l k = absurd l
add_le f (inf false) (inf false) c nan n o l k = absurd o
add_le f (inf false) (inf false) c (inf true) n o l k = absurd o
add_le f (inf false) (inf false) c (inf false) n o l k = highest (add f (inf false) c) n
add_le f (inf false) (inf false) c (fin v j h) n o l k = highest (add f (inf false) c) n
add_le f (inf false) (fin t b e) c d n o l k = absurd l
add_le f (fin s a w) y nan d n o l k = absurd n
add_le f (fin s a w) y (inf true) d n o l k = lowest (add f y d) o
add_le f (fin s a w) y (inf false) nan n o l k = absurd k
add_le f (fin s a w) y (inf false) (inf true) n o l k = absurd k
add_le f (fin s a w) y (inf false) (fin v j h) n o l k = absurd k
add_le f (fin s a w) nan (inf false) (inf false) n o l k = absurd l
add_le f (fin s a w) (inf true) (inf false) (inf false) n o l k = absurd l
add_le f (fin s a w) (inf false) (inf false) (inf false) n o l k = tt
add_le f (fin s a w) (fin t b e) (inf false) (inf false) n o l k = tt
add_le f (fin s a w) nan (fin u i g) d n o l k = absurd l
add_le f (fin s a w) (inf true) (fin u i g) d n o l k = absurd l
add_le f (fin s a w) (inf false) (fin u i g) nan n o l k = absurd o
add_le f (fin s a w) (inf false) (fin u i g) (inf true) n o l k = absurd o
add_le f (fin s a w) (inf false) (fin u i g) (inf false) n o l k = highest (add f (fin s a w) (fin u i g)) n
add_le f (fin s a w) (inf false) (fin u i g) (fin v j h) n o l k = highest (add f (fin s a w) (fin u i g)) n
add_le f (fin s a w) (fin t b e) (fin u i g) nan n o l k = absurd k
add_le f (fin s a w) (fin t b e) (fin u i g) (inf true) n o l k = absurd k
add_le f (fin s a w) (fin t b e) (fin u i g) (inf false) n o l k = highest (add f (fin s a w) (fin u i g)) n
add_le f (fin s a w) (fin t b e) (fin u i g) (fin v j h) n o l k = add_finite f s a w t b e u i g v j h l k

pub finite_number : (x : Float) → T (finite x) → T (not (is_nan x))
unfolding is_nan
finite_number nan h = h
finite_number (inf s) h = tt
finite_number (fin s m e) h = tt

pub add_number_second : (f : Format) (c x : Float) → T (finite c) → T (not (is_nan x)) → T (not (is_nan (add f c x)))
unfolding is_nan
add_number_second f nan x h n = absurd h
add_number_second f (inf s) x h n = absurd h
add_number_second f (fin s m e) nan h n = absurd n
add_number_second f (fin s m e) (inf t) h n = unfold add in tt
add_number_second f (fin s m e) (fin t k d) h n = add_number f (fin s m e) (fin t k d) tt tt

-- x and y may be infinite
pub add_mono : (f : Format) (x y c : Float) → T (finite c) → T (le x y) → T (le (add f x c) (add f y c))
add_mono f x y c h l = add_le f x y c c (add_number f x c (le_left x y l) h) (add_number f y c (le_right x y l) h) l (le_self c (finite_number c h))

pub add_mono_second : (f : Format) (c x y : Float) → T (finite c) → T (le x y) → T (le (add f c x) (add f c y))
add_mono_second f c x y h l = add_le f c c x y (add_number_second f c x h (le_left x y l)) (add_number_second f c y h (le_right x y l)) (le_self c (finite_number c h)) l

pub sub_mono : (f : Format) (x y c : Float) → T (finite c) → T (le x y) → T (le (sub f x c) (sub f y c))
unfolding sub
sub_mono f x y c h l = add_mono f x y (neg c) (neg_finite c h) l

-- what is taken off turns the order round
pub sub_anti : (f : Format) (c x y : Float) → T (finite c) → T (le x y) → T (le (sub f c y) (sub f c x))
unfolding sub
sub_anti f c x y h l = add_mono_second f c (neg y) (neg x) h (neg_mono x y l)

-- ---- products with, and quotients by, a value above zero

-- an operation that multiplies by i / j
module _ (f : Format) (i j : ℕ) (J : 0 < j) (op : Float → Float) (ends : (s : Bool) → op (inf s) ≡ inf s) (is : (s : Bool) (m : ℕ) (e : ℤ) → op (fin s m e) ≡ round f s (m * up e * i) (down e * j)) where
  scaled_number : (s : Bool) (m : ℕ) (e : ℤ) → T (not (is_nan (op (fin s m e))))
  scaled_number s m e = subst (λ (x : Float). T (not (is_nan x))) (sym (is s m e)) (round_number f s (m * up e * i) (down e * j))

  scaled_mono : (x y : Float) → T (le x y) → T (le (op x) (op y))
  unfolding le is_nan
  scaled_mono nan y l = absurd l
  scaled_mono (inf s) nan l = absurd l
  scaled_mono (inf s) (inf t) l = subst₂ (λ (x y : Float). T (le x y)) (sym (ends s)) (sym (ends t)) l
  scaled_mono (inf true) (fin t n d) l = subst (λ (x : Float). T (le x (op (fin t n d)))) (sym (ends true)) (lowest (op (fin t n d)) (scaled_number t n d))
  scaled_mono (inf false) (fin t n d) l = absurd l
  scaled_mono (fin s m e) nan l = absurd l
  scaled_mono (fin s m e) (inf true) l = absurd l
  scaled_mono (fin s m e) (inf false) l = subst (λ (x : Float). T (le (op (fin s m e)) x)) (sym (ends false)) (highest (op (fin s m e)) (scaled_number s m e))
  scaled_mono (fin s m e) (fin t n d) l =
      subst₂ (λ (x y : Float). T (le x y)) (sym (is s m e)) (sym (is t n d))
      (round_ordered f s t (m * up e * i) (down e * j) (n * up d * i) (down d * j) (mul-pos (down_pos e) J) (mul-pos (down_pos d) J)
      (subst₂ (λ (x y : ℕ). Ordered s x t y) (mul-mul-mul_comm (m * up e) (down d) i j) (mul-mul-mul_comm (n * up d) (down e) i j) (ordered_scaled s t (m * up e * down d) (n * up d * down e) (i * j) (le→ordered s m e t n d l))))

pub mul_mono : (f : Format) (x y p : Float) → T (positive p) → T (le x y) → T (le (mul f x p) (mul f y p))
mul_mono f x y p h l = scaled_mono f (num p) (den p) (den_pos p) (λ (z : Float). mul f z p) (mul_of_inf f p h) (mul_of_finite f p h) x y l

pub float_div_mono : (f : Format) (x y p : Float) → T (positive p) → T (le x y) → T (le (div f x p) (div f y p))
float_div_mono f x y p h l = scaled_mono f (den p) (num p) (size_above p h) (λ (z : Float). div f z p) (div_of_inf f p h) (div_of_finite f p h) x y l

-- ---- squares, of values without a sign

square_finite : (f : Format) (m : ℕ) (e : ℤ) (n : ℕ) (d : ℤ) → T (le (fin false m e) (fin false n d)) → T (le (mul f (fin false m e) (fin false m e)) (mul f (fin false n d) (fin false n d)))
unfolding mul
square_finite f m e n d l =
    let h = le→ordered false m e false n d l in
    round_mono f (m * up e * (m * up e)) (down e * down e) (n * up d * (n * up d)) (down d * down d) (mul-pos (down_pos e) (down_pos e)) (mul-pos (down_pos d) (down_pos d))
    (subst₂ (λ (x y : ℕ). x ≤ y) (mul-mul-mul_comm (m * up e) (down d) (m * up e) (down d)) (mul-mul-mul_comm (n * up d) (down e) (n * up d) (down e)) (mul-le-mul h h))

pub square_mono : (f : Format) (x y : Float) → sign x ≡ false → sign y ≡ false → T (le x y) → T (le (mul f x x) (mul f y y))
unfolding mul le
square_mono f nan y p q l = absurd l
square_mono f (inf true) y p q l = absurd (true≢false p)
square_mono f (inf false) nan p q l = absurd l
square_mono f (inf false) (inf true) p q l = absurd l
square_mono f (inf false) (inf false) p q l = tt
square_mono f (inf false) (fin t n d) p q l = absurd l
square_mono f (fin true m e) y p q l = absurd (true≢false p)
square_mono f (fin false m e) nan p q l = absurd l
square_mono f (fin false m e) (inf true) p q l = absurd l
square_mono f (fin false m e) (inf false) p q l = highest (mul f (fin false m e) (fin false m e)) (round_number f false (m * up e * (m * up e)) (down e * down e))
square_mono f (fin false m e) (fin true n d) p q l = absurd (true≢false q)
square_mono f (fin false m e) (fin false n d) p q l = square_finite f m e n d l
