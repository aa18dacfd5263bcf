-- The least key of segments in a list, and when a scan for it may stop. The least is not above the key of any segment;
-- so where the key of one is not above `bar`, the larger of `bar` and the least is `bar`, whatever the others are.
use mathlib.Core.Path.{◌≡◌, refl, sym, ap, ◌∙◌, subst}
use mathlib.Core.Bool.{Bool, true, false, not, cond}
use mathlib.Core.List.{List, [], ◌∷◌}
use Prim.Native.Nat.{ℕ, zero, suc, ◌<◌}
use native.Mathlib.Omega.{arith}
use lib.Dec.{T}
use lib.Ieee.{Float, inf, binary64, lt, le, fits, is_nan}
use lib.ListN.{length, get_or}
use Rattle.leaves.specs.Bounds.{smaller_of, larger_of}
use Rattle.leaves.proofs.Choices.{smaller_by_test, smaller_le_first, smaller_le_second, smaller_number, larger_by_test}
use Rattle.leaves.specs.Keys.{Key}
use Rattle.leaves.proofs.Hypotenuses.{key_is, inf_key, smaller_key}
use Rattle.leaves.proofs.Order.{le_left, le_self, float_le_trans, le→not_lt}
use Rattle.sheet.specs.Content.{Point}
use Rattle.clearance.specs.Clearance.{residual}
use Rattle.points.proofs.ColumnOrder.{holds}
use Rattle.points.specs.Segments.{Segment}
use Rattle.clearance.specs.Nearest.{key_to, least_key, stops_at}

-- ---- tests

not_so : (t : Bool) → T (not t) → t ≡ false
not_so true h = absurd h
not_so false h = refl

-- ---- the larger of `bar` and what is not above it

pub larger_stays : (bar x : Float) → T (le x bar) → larger_of bar x ≡ bar
larger_stays bar x h = larger_by_test bar x ∙ ap (λ (t : Bool). cond t x bar) (not_so (lt bar x) (le→not_lt x bar h))

module _ (p : Point) where
  pub key_of_lem : (s : Segment) → Key (key_to p s)
  unfolding key_to
  key_of_lem s = key_is (residual p s).u (residual p s).v

  -- ---- the least, a segment at a time

  pub least_none : (k : Float) → least_key p k [] ≡ k
  unfolding least_key
  least_none k = refl

  pub least_more : (k : Float) (s : Segment) (ss : List Segment) → least_key p k (s ∷ ss) ≡ least_key p (smaller_of k (key_to p s)) ss
  unfolding least_key
  least_more k s ss = refl

  pub least_key_lem : (ss : List Segment) (k : Float) → Key k → Key (least_key p k ss)
  unfolding least_key
  least_key_lem [] k h = h
  least_key_lem (s ∷ ss) k h = least_key_lem ss (smaller_of k (key_to p s)) (smaller_key k (key_to p s) h (key_of_lem s))

  -- the next segment is nearer, or it is not
  module _ (least key : Float) (s : Segment) (ss : List Segment) (is : key ≡ key_to p s) where
    chosen_by : (t : Bool) → lt key least ≡ t → least_key p least (s ∷ ss) ≡ least_key p (cond t key least) ss
    chosen_by t e = least_more least s ss ∙ ap (λ (y : Float). least_key p y ss) (ap (smaller_of least) (sym is) ∙ smaller_by_test least key ∙ ap (λ (b : Bool). cond b key least) e)

    pub least_nearer : lt key least ≡ true → least_key p least (s ∷ ss) ≡ least_key p key ss
    least_nearer e = chosen_by true e

    pub least_farther : lt key least ≡ false → least_key p least (s ∷ ss) ≡ least_key p least ss
    least_farther e = chosen_by false e

  -- ---- it is not above its start, nor above the key of a segment

  least_le_start : (ss : List Segment) (k : Float) → Key k → T (not (is_nan k)) → T (le (least_key p k ss) k)
  unfolding least_key
  least_le_start [] k h n = le_self k n
  least_le_start (s ∷ ss) k h n =
      let m = smaller_of k (key_to p s) in
      let g : Key m = smaller_key k (key_to p s) h (key_of_lem s) in
      float_le_trans binary64 (least_key p m ss) m k (least_key_lem ss m g).held g.held h.held (least_le_start ss m g (smaller_number k (key_to p s) n)) (smaller_le_first k (key_to p s) n)

  -- a segment that stops the scan
  module _ (bar : Float) (held : T (fits binary64 bar)) where
    least_le_bar : (ss : List Segment) (k : ℕ) → stops_at p bar k ss ≡ true → (least : Float) → Key least → T (not (is_nan least)) → T (le (least_key p least ss) bar)
    unfolding stops_at
    least_le_bar [] k e least h n = absurd (subst T (sym e) tt)
    least_le_bar (s ∷ ss) zero e least h n =
        let key = key_to p s in
        let near : T (le key bar) = holds (le key bar) e in
        let m = smaller_of least key in
        let g : Key m = smaller_key least key h (key_of_lem s) in
        let first : T (le (least_key p m ss) key) = float_le_trans binary64 (least_key p m ss) m key (least_key_lem ss m g).held g.held (key_of_lem s).held (least_le_start ss m g (smaller_number least key n)) (smaller_le_second least key n (le_left key bar near)) in
        subst (λ (x : Float). T (le x bar)) (sym (least_more least s ss)) (float_le_trans binary64 (least_key p m ss) key bar (least_key_lem ss m g).held (key_of_lem s).held held first near)
    least_le_bar (s ∷ ss) (suc k) e least h n =
        let key = key_to p s in
        subst (λ (x : Float). T (le x bar)) (sym (least_more least s ss)) (least_le_bar ss k e (smaller_of least key) (smaller_key least key h (key_of_lem s)) (smaller_number least key n))

  inf_number : T (not (is_nan (inf false)))
  unfolding is_nan
  inf_number = tt

  pub stopped : (bar : Float) (k : ℕ) (ss : List Segment) → fits binary64 bar ≡ true → stops_at p bar k ss ≡ true → bar ≡ larger_of bar (least_key p (inf false) ss)
  stopped bar k ss fit e = sym (larger_stays bar (least_key p (inf false) ss) (least_le_bar bar (holds (fits binary64 bar) fit) ss k e (inf false) inf_key inf_number))

  pub stops_here : (bar key : Float) (s : Segment) (ss : List Segment) (k : ℕ) → k < length ss → key ≡ key_to p (get_or ss k s) → le key bar ≡ true → stops_at p bar k ss ≡ true
  unfolding stops_at
  stops_here bar key s [] k h is near = absurd (omega arith)
  stops_here bar key s (t ∷ ts) zero h is near = rw (← is) near
  stops_here bar key s (t ∷ ts) (suc k) h is near = stops_here bar key s ts k (omega arith) is near
