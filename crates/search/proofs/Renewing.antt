-- The copies of all segments, renewed one after the other: one is stored in its place and the others stay as they were,
-- so each still serves up to the column noted in its place; and when all serve the column, they are the segments'
-- copies there.
use mathlib.Core.Path.{◌≡◌, sym, ◌∙◌}
use mathlib.Core.List.{List, map}
use Prim.Native.Nat.{ℕ, ◌+◌, ◌<◌, ◌≤◌}
use native.Mathlib.Decide.{dec_lt}
use native.Mathlib.Omega.{arith}
use lib.Ieee.{Float, nan}
use lib.ListN.{length, get_or, set}
use lib.Seq.{get_or-set_same, get_or-set_other}
use Rattle.std.proofs.lemmas.List.{length-map, ext_get_or, get_or-map, get_or_default}
use Rattle.sheet.specs.Content.{point}
use Rattle.points.specs.Grid.{part}
use Rattle.points.specs.Segments.{Segment, segment}
use Rattle.search.specs.Copies.{Serving, Ready}
use Rattle.clearance.specs.Clearance.{shifted_to}

module _ (period : Float) (i : ℕ) (list : List Segment) (until : List ℕ) (copies : List Segment) where
  -- the copy in place k is stored, and serves up to column t
  module _ (k t : ℕ) (copy d : Segment) (noted : k < length until) (room : k < length copies) (ready : Ready period i list until copies) (serves : Serving period i t (get_or list k d) copy) where
    pub renewed : Ready period i list (set until k t) (set copies k copy)
    renewed j s h = by (dec_lt j k) (dec_lt k j)
      where
        by : Dec (j < k) → Dec (k < j) → Serving period i (get_or (set until k t) j 0) (get_or list j s) (get_or (set copies k copy) j s)
        by (yes p) q = rw (get_or-set_other until k j t 0 (λ e. absurd (omega arith)), get_or-set_other copies k j copy s (λ e. absurd (omega arith))) (ready j s h)
        by (no p) (yes q) = rw (get_or-set_other until k j t 0 (λ e. absurd (omega arith)), get_or-set_other copies k j copy s (λ e. absurd (omega arith))) (ready j s h)
        by (no p) (no q) =
            let e : j ≡ k = omega arith in
            rw (e, get_or-set_same until k t 0 noted, get_or-set_same copies k copy s room, get_or_default list k s d (omega arith)) serves

    pub noted_up : i ≤ t → ((j : ℕ) → j < k → i ≤ get_or until j 0) → (j : ℕ) → j < k + 1 → i ≤ get_or (set until k t) j 0
    noted_up up before j h = by (dec_lt j k)
      where
        by : Dec (j < k) → i ≤ get_or (set until k t) j 0
        by (yes p) = rw (get_or-set_other until k j t 0 (λ e. absurd (omega arith))) (before j p)
        by (no p) =
            let e : j ≡ k = omega arith in
            rw (e, get_or-set_same until k t 0 noted) up

  -- when all serve column i
  module _ (same : length list ≡ length copies) (ready : Ready period i list until copies) where
    pub ready_next : Ready period (i + 1) list until copies
    ready_next j s h m l = ready j s h m (omega arith)

    pub all_renewed : ((j : ℕ) → j < length list → i ≤ get_or until j 0) → copies ≡ map (shifted_to period (part i)) list
    all_renewed up =
        let d = segment (point nan nan) (point nan nan) in
        let f = shifted_to period (part i) in
        ext_get_or d copies (map f list) (sym (length-map list f ∙ same)) (λ j h. sym (get_or-map f list j d d (omega arith) ∙ ready j d (omega arith) i (omega arith) (up j (omega arith))))
