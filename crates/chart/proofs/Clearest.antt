-- The search, over any coverage of the grid points and any clearance of them that is a value of the format and no NaN:
-- it finds the clearest covered point, the first of those that are as clear, and counts
-- the covered ones. Where the walk stands, the best so far has at least the clearance of every covered point that it
-- has come by, and is the first of them to have it; with none above 0 it is the start.
use mathlib.Core.Path.{◌≡◌, refl, sym, ap, ◌∙◌, subst}
use mathlib.Core.Logic.{◌⊎◌, inl, inr, ◌↔◌}
use mathlib.Core.Bool.{Bool, true, false, not, cond}
use mathlib.Core.List.{List, [], ◌∷◌, ◌++◌, foldl, map, flat_map}
use Prim.Native.Nat.{ℕ, zero, suc, ◌+◌, ◌≤◌, ◌<◌}
use native.Mathlib.Nat.{eq-or-lt_of_le}
use native.Mathlib.Decide.{dec_lt}
use native.Mathlib.Omega.{arith}
use lib.Dec.{T, not_T, T_not}
use lib.Ieee.{Float, binary64, of_bits, fits, is_nan, lt, le}
use Rattle.leaves.specs.Constants.{plus_zero, clearance_limit}
use Rattle.leaves.proofs.ConstantBits.{clearance_limit_fits, clearance_limit_positive}
use Rattle.leaves.proofs.Order.{le_self, le→not_lt, le_lt_trans, lt_le_trans, lt→le, float_lt_irrefl, not_lt→le}
use Rattle.points.specs.Grid.{up_from, lines, part, grid_of}
use Rattle.search.specs.Search.{start, better, counted, visit, column, search}
use Rattle.chart.specs.Demand.{OnGrid, After, trues, covered_count, NoneServes, Clearest, candidate_at}
use Rattle.search.specs.declared.candidate.Candidate.{Candidate}
use Rattle.search.proofs.Visits.{visit_is}

-- ---- a walk over n numbers from i on

module _ {S : Type 0} (step : S → ℕ → S) (P : ℕ → S → Type 0) where
  walk : (n i : ℕ) (s : S) → ((k : ℕ) (z : S) → i ≤ k → k < i + n → P k z → P (k + 1) (step z k)) → P i s → P (i + n) (foldl step s (up_from i n))
  unfolding up_from
  walk zero i s keeps p = let e : i ≡ i + 0 = omega arith in subst (λ (k : ℕ). P k s) e p
  walk (suc n) i s keeps p =
      let e : i + 1 + n ≡ i + suc n = omega arith in
      subst (λ (k : ℕ). P k (foldl step (step s i) (up_from (i + 1) n))) e
      (walk n (i + 1) (step s i) (λ k z h l q. keeps k z (omega arith) (omega arith) q) (keeps i s (omega arith) (omega arith) p))

-- ---- places

-- what the next place in a column comes after
next : (i j k l : ℕ) → After i (j + 1) k l → After i j k l ⊎ ((k ≡ i) × (l ≡ j))
next i j k l (inl h) = inl (inl h)
next i j k l (inr h) = let b : l ≤ j = omega arith in elim (eq-or-lt_of_le b) [ inl e ↦ inr (h.0, e) | inr g ↦ inl (inr (h.0, g)) ]

-- a column's end comes after all that the next column's first place comes after
turn : (i k l : ℕ) → OnGrid k l → After (i + 1) 1 k l → After i (1 + 31) k l
turn i k l on (inl h) = let b : k ≤ i = omega arith in elim (eq-or-lt_of_le b) [ inl e ↦ inr (e, omega arith) | inr g ↦ inl g ]
turn i k l on (inr h) = absurd (none on.j_from h.1)
  where
    none : 1 ≤ l → l < 1 → ⊥
    none p q = omega arith

-- nothing on the grid comes before its first place, and all of it before the end
none_before : (k l : ℕ) → OnGrid k l → After 1 1 k l → ⊥
none_before k l on (inl h) = let b = on.i_from in omega arith
none_before k l on (inr h) = let b = on.j_from in let c = h.1 in omega arith

all_before : (k l : ℕ) → OnGrid k l → After (1 + 31) 1 k l
all_before k l on = inl (omega (arith, on.i_to))

-- of two places one comes after the other, or they are the same
pub ordered : (i j k l : ℕ) → After i j k l ⊎ (((k ≡ i) × (l ≡ j)) ⊎ After k l i j)
ordered i j k l = by (dec_lt k i) (dec_lt i k) (dec_lt l j) (dec_lt j l)
  where
    by : Dec (k < i) → Dec (i < k) → Dec (l < j) → Dec (j < l) → After i j k l ⊎ (((k ≡ i) × (l ≡ j)) ⊎ After k l i j)
    by (yes p) q r t = inl (inl p)
    by (no p) (yes q) r t = inr (inr (inl q))
    by (no p) (no q) (yes r) t = inl (inr (omega arith, r))
    by (no p) (no q) (no r) (yes t) = inr (inr (inr (omega arith, t)))
    by (no p) (no q) (no r) (no t) = inr (inl (omega arith, omega arith))

-- ---- tests

true_T : {b : Bool} → b ≡ true → T b
true_T e = subst T (sym e) tt

T_false : (b : Bool) → T (not b) → b ≡ false
T_false true t = absurd t
T_false false t = refl

false_T : {b : Bool} → b ≡ false → T (not b)
false_T e = subst (λ (x : Bool). T (not x)) (sym e) tt

zero_held : T (fits binary64 plus_zero)
unfolding fits of_bits
zero_held = tt

-- ---- the count

trues_append : (xs ys : List Bool) → trues (xs ++ ys) ≡ trues xs + trues ys
unfolding trues
trues_append [] ys = omega arith
trues_append (true ∷ xs) ys = omega (arith, trues_append xs ys)
trues_append (false ∷ xs) ys = trues_append xs ys

module _ (cover : ℕ → ℕ → Bool) (clear : ℕ → ℕ → Float) where
  visit_count : (i j : ℕ) (c : Candidate) → (visit cover clear i c j).count ≡ c.count + trues (cover i j ∷ [])
  unfolding better counted trues
  visit_count i j c = ap (λ (z : Candidate). z.count) (visit_is cover clear i j c) ∙ by (cover i j) (lt c.clearance (clear i j))
    where
      by : (b t : Bool) → (cond b (counted (cond t (record { u = part i; v = part j; clearance = clear i j; count = c.count }) c)) c).count ≡ c.count + trues (b ∷ [])
      by true true = refl
      by true false = refl
      by false t = omega arith

  visits_count : (i : ℕ) (js : List ℕ) (c : Candidate) → (foldl (visit cover clear i) c js).count ≡ c.count + trues (map (cover i) js)
  visits_count i [] c = unfold trues in omega arith
  visits_count i (j ∷ js) c =
      omega (arith, visits_count i js (visit cover clear i c j), visit_count i j c, trues_append (cover i j ∷ []) (map (cover i) js))

  columns_count : (is : List ℕ) (c : Candidate) → (foldl (column cover clear) c is).count ≡ c.count + trues (flat_map (λ (i : ℕ). map (cover i) lines) is)
  unfolding flat_map column
  columns_count [] c = unfold trues in omega arith
  columns_count (i ∷ is) c =
      omega (arith, columns_count is (column cover clear c i), visits_count i lines c, trues_append (map (cover i) lines) (flat_map (λ (k : ℕ). map (cover k) lines) is))

  pub search_count : (search cover clear).count ≡ covered_count cover
  unfolding search covered_count grid_of
  search_count = omega (arith, columns_count lines start)

-- ---- the walk

module _ (cover : ℕ → ℕ → Bool) (clear : ℕ → ℕ → Float) where
  -- the best so far is the grid point (i, j), covered, and the first to be as clear
  record Found (c : Candidate) (i j : ℕ) : Type 0 where
    on : OnGrid i j
    covered : T (cover i j)
    is_u : c.u ≡ part i
    is_v : c.v ≡ part j
    is_clear : c.clearance ≡ clear i j
    first : (k l : ℕ) → OnGrid k l → T (cover k l) → After i j k l → T (lt (clear k l) c.clearance)

  -- the walk has come to (i, j)
  record Reached (i j : ℕ) (c : Candidate) : Type 0 where
    held : T (fits binary64 c.clearance)
    number : T (not (is_nan c.clearance))
    most : (k l : ℕ) → OnGrid k l → T (cover k l) → After i j k l → T (le (clear k l) c.clearance)
    from : (c.clearance ≡ plus_zero) ⊎ ((a : ℕ) × (b : ℕ) × Found c a b)

  begin : Reached 1 1 start
  unfolding is_nan of_bits
  begin = record { held = zero_held; number = tt; most = λ k l on t h. absurd (none_before k l on h); from = inl refl }

  column_end : (i : ℕ) (c : Candidate) → Reached i (1 + 31) c → Reached (i + 1) 1 c
  column_end i c r = record { held = r.held; number = r.number; most = λ k l on t h. r.most k l on t (turn i k l on h); from = r.from }

  found_counted : (c : Candidate) → (c.clearance ≡ plus_zero) ⊎ ((a : ℕ) × (b : ℕ) × Found c a b) → ((counted c).clearance ≡ plus_zero) ⊎ ((a : ℕ) × (b : ℕ) × Found (counted c) a b)
  unfolding counted
  found_counted c (inl e) = inl e
  found_counted c (inr (a, b, w)) = inr (a, b, record { on = w.on; covered = w.covered; is_u = w.is_u; is_v = w.is_v; is_clear = w.is_clear; first = w.first })

  -- (i, j) is not above the best so far, d, or is not covered
  module _ (i j : ℕ) (d : Float) (here : T (cover i j) → T (le (clear i j) d)) (so_far : (k l : ℕ) → OnGrid k l → T (cover k l) → After i j k l → T (le (clear k l) d)) where
    most_next : (k l : ℕ) → OnGrid k l → T (cover k l) → After i (j + 1) k l → T (le (clear k l) d)
    most_next k l on t h = by (next i j k l h)
      where
        by : After i j k l ⊎ ((k ≡ i) × (l ≡ j)) → T (le (clear k l) d)
        by (inl g) = so_far k l on t g
        by (inr e) =
            subst (λ (b : ℕ). T (le (clear k b) d)) (sym e.1)
            (subst (λ (a : ℕ). T (le (clear a j) d)) (sym e.0) (here (subst (λ (a : ℕ). T (cover a j)) e.0 (subst (λ (b : ℕ). T (cover k b)) e.1 t))))

  module _ (held : (i j : ℕ) → T (fits binary64 (clear i j))) (number : (i j : ℕ) → T (not (is_nan (clear i j)))) where
    -- by whether (i, j) is covered, and clearer than the best so far
    pass : (i j : ℕ) (c : Candidate) (b t : Bool) → OnGrid i j → cover i j ≡ b → lt c.clearance (clear i j) ≡ t → Reached i j c
        → Reached i (j + 1) (cond b (counted (cond t (record { u = part i; v = part j; clearance = clear i j; count = c.count }) c)) c)
    unfolding counted
    pass i j c true true on e f r =
        let less : (k l : ℕ) → OnGrid k l → T (cover k l) → After i j k l → T (lt (clear k l) (clear i j)) =
        λ k l at t h. le_lt_trans binary64 (clear k l) c.clearance (clear i j) (held k l) r.held (held i j) (r.most k l at t h) (true_T f) in
        record {
          held = held i j;
          number = number i j;
          most = most_next i j (clear i j) (λ t. le_self (clear i j) (number i j)) (λ k l at t h. lt→le (clear k l) (clear i j) (less k l at t h));
          from = inr (i, j, record { on = on; covered = true_T e; is_u = refl; is_v = refl; is_clear = refl; first = less });
        }
    pass i j c true false on e f r =
        record {
          held = r.held;
          number = r.number;
          most = most_next i j c.clearance (λ t. not_lt→le c.clearance (clear i j) r.number (number i j) (false_T f)) r.most;
          from = found_counted c r.from;
        }
    pass i j c false t on e f r =
        record {
          held = r.held;
          number = r.number;
          most = most_next i j c.clearance (λ t. absurd (T_not (cover i j) (false_T e) t)) r.most;
          from = r.from;
        }

    visit_reaches : (i j : ℕ) (c : Candidate) → OnGrid i j → Reached i j c → Reached i (j + 1) (visit cover clear i c j)
    unfolding better
    visit_reaches i j c on r = rw (visit_is cover clear i j c) (pass i j c (cover i j) (lt c.clearance (clear i j)) on refl refl r)

    column_reaches : (i : ℕ) (c : Candidate) → 1 ≤ i → i ≤ 31 → Reached i 1 c → Reached (i + 1) 1 (column cover clear c i)
    unfolding column lines
    column_reaches i c h g r =
        column_end i (foldl (visit cover clear i) c (up_from 1 31))
        (walk (visit cover clear i) (Reached i) 31 1 c (λ j z a b q. visit_reaches i j z (record { i_from = h; i_to = g; j_from = a; j_to = omega arith }) q) r)

    search_reaches : Reached (1 + 31) 1 (search cover clear)
    unfolding search lines
    search_reaches = walk (column cover clear) (λ (i : ℕ). Reached i 1) 31 1 start (λ i z a b q. column_reaches i z a (omega arith) q) begin

    -- a search above the limit has found the clearest
    found_is : (c : Candidate) → Reached (1 + 31) 1 c → T (lt clearance_limit c.clearance) → (i : ℕ) × (j : ℕ) × Clearest cover clear i j × Found c i j
    found_is c r t = by r.from
      where
        by : (c.clearance ≡ plus_zero) ⊎ ((a : ℕ) × (b : ℕ) × Found c a b) → (i : ℕ) × (j : ℕ) × Clearest cover clear i j × Found c i j
        by (inl e) = absurd (T_not (lt clearance_limit c.clearance) (false_T (ap (lt clearance_limit) e ∙ clearance_limit_positive)) t)
        by (inr (i, j, w)) =
            let e = w.is_clear in (
              i,
              j,
              record {
                serves = record { on = w.on; covered = w.covered; above = subst (λ (x : Float). T (lt clearance_limit x)) e t };
                most = λ k l on b. subst (λ (x : Float). T (le (clear k l) x)) e (r.most k l on b (all_before k l on));
                first = λ k l on b h. subst (λ (x : Float). T (lt (clear k l) x)) e (w.first k l on b h);
              },
              w,
            )

    -- ---- the theorems

    -- no grid point serves exactly where the clearance that the search gives is not above the limit
    pub none_serves : NoneServes cover clear ↔ (lt clearance_limit (search cover clear).clearance ≡ false)
    none_serves = (forth, back)
      where
        forth : NoneServes cover clear → lt clearance_limit (search cover clear).clearance ≡ false
        forth none =
            T_false (lt clearance_limit (search cover clear).clearance)
            (not_T (lt clearance_limit (search cover clear).clearance) (λ t. let (i, j, w, f) = found_is (search cover clear) search_reaches t in none i j w.serves))

        back : lt clearance_limit (search cover clear).clearance ≡ false → NoneServes cover clear
        back e i j s =
            T_not (lt clearance_limit (search cover clear).clearance) (false_T e)
            (lt_le_trans binary64 clearance_limit (clear i j) (search cover clear).clearance clearance_limit_fits (held i j) search_reaches.held s.above (search_reaches.most i j s.on s.covered (all_before i j s.on)))

    -- otherwise the search gives the clearest grid point, with its clearance and the number of covered ones
    pub clearest_chosen : lt clearance_limit (search cover clear).clearance ≡ true
        → (i : ℕ) × (j : ℕ) × Clearest cover clear i j × (search cover clear ≡ candidate_at cover clear i j)
    clearest_chosen e =
        let (i, j, w, f) = found_is (search cover clear) search_reaches (true_T e) in
        (i, j, w, λ t. record { u = f.is_u t; v = f.is_v t; clearance = f.is_clear t; count = search_count cover clear t })

-- ---- the clearest point and the others

module _ (cover : ℕ → ℕ → Bool) (clear : ℕ → ℕ → Float) (i j k l : ℕ) (c : Clearest cover clear i j) where
  -- "those with the same clearance come after it"
  pub ties_after : OnGrid k l → T (cover k l) → clear k l ≡ clear i j → ((k ≡ i) × (l ≡ j)) ⊎ After k l i j
  ties_after on t e = by (ordered i j k l)
    where
      by : After i j k l ⊎ (((k ≡ i) × (l ≡ j)) ⊎ After k l i j) → ((k ≡ i) × (l ≡ j)) ⊎ After k l i j
      by (inl h) = absurd (float_lt_irrefl (clear i j) (subst (λ (x : Float). T (lt x (clear i j))) e (c.first k l on t h)))
      by (inr h) = h

  -- there is one such point
  pub clearest_once : Clearest cover clear k l → (k ≡ i) × (l ≡ j)
  clearest_once d = by (ordered i j k l)
    where
      by : After i j k l ⊎ (((k ≡ i) × (l ≡ j)) ⊎ After k l i j) → (k ≡ i) × (l ≡ j)
      by (inl h) = absurd (T_not (lt (clear k l) (clear i j)) (le→not_lt (clear i j) (clear k l) (d.most i j c.serves.on c.serves.covered)) (c.first k l d.serves.on d.serves.covered h))
      by (inr (inl e)) = e
      by (inr (inr h)) = absurd (T_not (lt (clear i j) (clear k l)) (le→not_lt (clear k l) (clear i j) (c.most k l d.serves.on d.serves.covered)) (d.first i j c.serves.on c.serves.covered h))
