-- The grid's lines ascend, so those below a number are the first ones: what the count of them tells, and how it is
-- found from a count nearby.
-- Each line is a positive number below the next, by evaluation; through a positive number in the middle `lt` is
-- transitive, whatever the last number is.
use mathlib.Core.Path.{◌≡◌, refl, sym, subst, ◌∙◌}
use mathlib.Core.Logic.{inl, inr}
use Rattle.std.specs.Prelude.{Option, Some, None}
use Rattle.std.specs.Bool.{⊤}
use Rattle.std.specs.Option.{unwrap_or, MatchOption}
use mathlib.Core.Bool.{Bool, true, false, not, xor, ◌&&◌}
use Prim.Native.Nat.{ℕ, zero, suc, ◌+◌, ◌-◌, ◌*◌, ◌<◌, ◌≤◌}
use native.Mathlib.Nat.{eq-or-lt_of_le, mul_right_comm, mul-le-mul_right, mul-lt-mul_of_pos_right, lt_of_mul-lt-mul_right}
use native.Mathlib.Decide.{dec_lt}
use native.Mathlib.Omega.{arith}
use borrow.Author.Tests.{lt-ltb, le-ltb, le-leb, lt-leb}
use lib.Dec.{T, leb, ltb, ltb→lt, lt→ltb}
use lib.Ieee.{Float, nan, inf, fin, up, down, of_bits, of_int, div, round, lt}
use lib.Ieee.Fits.{down_pos, and_l, and_r}
use Rattle.points.specs.Grid.{part}
use Rattle.inside.specs.Lines.{NoneAfter, Below, Parted}

-- ---- through a positive number in the middle

positive : Float → Bool
positive nan = false
positive (inf s) = false
positive (fin s m e) = not s

-- a/p < b/q < c/r
chain : (a b c p q r : ℕ) → 0 < r → a * q < b * p → b * r < c * q → a * r < c * p
chain a b c p q r h l k =
    let x : a * q * r < b * p * r = mul-lt-mul_of_pos_right l h in
    let y : b * r * p ≤ c * q * p = mul-le-mul_right p (omega arith) in
    lt_of_mul-lt-mul_right q (omega (arith, mul_right_comm a q r, mul_right_comm b p r, mul_right_comm c q p))

through : (x y z : Float) → T (positive x) → T (positive y) → T (lt x y) → T (lt y z) → T (lt x z)
unfolding lt positive
through nan y z h k p q = absurd h
through (inf s) y z h k p q = absurd h
through (fin true m e) y z h k p q = absurd h
through (fin false m e) nan z h k p q = absurd k
through (fin false m e) (inf t) z h k p q = absurd k
through (fin false m e) (fin true n d) z h k p q = absurd k
through (fin false m e) (fin false n d) nan h k p q = q
through (fin false m e) (fin false n d) (inf t) h k p q = q
through (fin false m e) (fin false n d) (fin true o g) h k p q = q
through (fin false m e) (fin false n d) (fin false o g) h k p q =
    lt→ltb (m * up e * down g) (o * up g * down e)
    (chain (m * up e) (n * up d) (o * up g) (down e) (down d) (down g) (down_pos g) (ltb→lt (m * up e * down d) (n * up d * down e) p) (ltb→lt (n * up d * down g) (o * up g * down d) q))

-- ---- the lines

-- the test passes on all numbers below n
all : (ℕ → Bool) → ℕ → Bool
all test zero = true
all test (suc n) = test n && all test n

all_at : (test : ℕ → Bool) (n i : ℕ) → T (all test n) → i < n → T (test i)
unfolding all
all_at test zero i h l = absurd (none l)
  where
    none : i < 0 → ⊥
    none k = omega arith
all_at test (suc n) i h l =
    let b : i ≤ n = omega arith in
    elim (eq-or-lt_of_le b) [ inl e ↦ subst (λ (k : ℕ). T (test k)) (sym e) (and_l (test n) (all test n) h) | inr g ↦ all_at test n i (and_r (test n) (all test n) h) g ]

line_up : ℕ → Bool
line_up m = positive (part (m + 1)) && lt (part (m + 1)) (part (m + 1 + 1))

lines_up : T (all line_up 31)
unfolding part div of_int of_bits round lt all line_up positive
lines_up = tt

module _ (m : ℕ) (h : m < 31) where
  line_positive : T (positive (part (m + 1)))
  unfolding line_up
  line_positive = and_l (positive (part (m + 1))) (lt (part (m + 1)) (part (m + 1 + 1))) (all_at line_up 31 m lines_up h)

  next_line : T (lt (part (m + 1)) (part (m + 1 + 1)))
  unfolding line_up
  next_line = and_r (positive (part (m + 1))) (lt (part (m + 1)) (part (m + 1 + 1))) (all_at line_up 31 m lines_up h)

module _ (x : Float) where
  -- a line is below x where a later one is
  below_before : (n m : ℕ) → m + n < 31 → T (lt (part (m + n + 1)) x) → T (lt (part (m + 1)) x)
  below_before zero m h b = let e : m + 0 ≡ m = omega arith in rw e at b
  below_before (suc n) m h b =
      let e : m + suc n + 1 ≡ m + 1 + n + 1 = omega arith in
      through (part (m + 1)) (part (m + 1 + 1)) x (line_positive m (omega arith)) (line_positive (m + 1) (omega arith)) (next_line m (omega arith))
      (below_before n (m + 1) (omega arith) (rw e at b))

  module _ (m n : ℕ) (order : m ≤ n) (last : n < 31) where
    pub first_below : lt (part (n + 1)) x ≡ true → lt (part (m + 1)) x ≡ true
    first_below b =
        let e : n ≡ m + (n - m) = omega arith in
        so (lt (part (m + 1)) x) (below_before (n - m) m (omega arith) (rw (← e) (subst T (sym b) tt)))
      where
        so : (t : Bool) → T t → t ≡ true
        so true h = refl
        so false h = absurd h

    pub later_above : lt (part (m + 1)) x ≡ false → lt (part (n + 1)) x ≡ false
    later_above a = by (lt (part (n + 1)) x) refl
      where
        by : (t : Bool) → lt (part (n + 1)) x ≡ t → lt (part (n + 1)) x ≡ false
        by false e = e
        by true e = let z : ◌≡◌ {A = Bool} false true = sym a ∙ first_below e in cc

  -- ---- the count, from one nearby

  -- up to the first line that is not below x, or to the end
  pub none_from : (near : ℕ) (found : Option ℕ)
      → MatchOption found ((k : ℕ) → near ≤ k → k < 31 → ⊤) (λ i. (near ≤ i) × (i < 31) × (lt (part (i + 1)) x ≡ false) × ((k : ℕ) → near ≤ k → k < i → ⊤))
      → NoneAfter x (unwrap_or found 31)
  none_from near None h = record { most = omega arith; none = λ m l n. absurd (omega arith) }
  none_from near (Some i) h = record { most = omega arith; none = λ m l n. later_above i m l n h.2 }

  module _ (count : ℕ) (none : NoneAfter x count) where
    pub none_lower : 0 < count → lt (part count) x ≡ false → NoneAfter x (count - 1)
    none_lower h e =
        let f : count ≡ count - 1 + 1 = omega arith in
        let most = none.most in
        record { most = omega arith; none = λ m l n. later_above (count - 1) m l n (rw (← f) e) }

    pub below_last : 0 < count → lt (part count) x ≡ true → Below x count
    below_last h e = record { most = none.most; is = λ m l. by m l (dec_lt m count) }
      where
        by : (m : ℕ) → m < 31 → Dec (m < count) → lt (part (m + 1)) x ≡ ltb m count
        by m l (yes p) =
            let f : count ≡ count - 1 + 1 = omega arith in
            let most = none.most in
            first_below m (count - 1) (omega arith) (omega arith) (rw (← f) e) ∙ sym (lt-ltb m count p)
        by m l (no p) = none.none m (omega arith) l ∙ sym (le-ltb m count (omega arith))

    pub below_none : count ≤ 0 → Below x count
    below_none h = record { most = none.most; is = λ m l. none.none m (omega arith) l ∙ sym (le-ltb m count (omega arith)) }

-- a loop over the lines, down
pub ruleset line_by_line = (none_lower, below_last, below_none)

-- ---- the lines between two numbers

between : (m p q : ℕ) → p ≤ q → xor (ltb m p) (ltb m q) ≡ leb p m && ltb m q
unfolding xor
between m p q h = by (dec_lt m p) (dec_lt m q)
  where
    by : Dec (m < p) → Dec (m < q) → xor (ltb m p) (ltb m q) ≡ leb p m && ltb m q
    by (yes k) (yes l) = rw (lt-ltb m p k, lt-ltb m q l, lt-leb p m k)
    by (yes k) (no l) = absurd (omega arith)
    by (no k) (yes l) = rw (le-ltb m p (omega arith), lt-ltb m q l, le-leb p m (omega arith))
    by (no k) (no l) = rw (le-ltb m p (omega arith), le-ltb m q (omega arith), le-leb p m (omega arith))

xor_comm : (a b : Bool) → xor a b ≡ xor b a
unfolding xor
xor_comm true true = refl
xor_comm true false = refl
xor_comm false true = refl
xor_comm false false = refl

module _ {a b : Float} {p q : ℕ} (below_a : Below a p) (below_b : Below b q) where
  pub parted_up : p ≤ q → Parted a b p q
  parted_up h = record { order = h; most = below_b.most; is = λ m l. rw (below_a.is m l, below_b.is m l) (between m p q h) }

  pub parted_down : q ≤ p → Parted a b q p
  parted_down h = record { order = h; most = below_a.most; is = λ m l. rw (below_a.is m l, below_b.is m l) (xor_comm (ltb m p) (ltb m q) ∙ between m q p h) }
