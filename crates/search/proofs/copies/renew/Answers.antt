-- `search::copies::renew` renews every copy. The loop's invariant: each copy serves from column i on up to the column
-- noted in its place, and for the first k of them that is column i or a later one. A turn renews one, or leaves it.
use Rattle.std.proofs.Common.{◌≡◌, ◌≤◌, ℕ, Float, arith, below_more}
use Rattle.points.specs.Segments.{Segment}
use Rattle.search.specs.Copies.{Serving}
use Rattle.search.proofs.Renewing.{renewed, noted_up, ready_next, all_renewed}
use Rattle.search.proofs.copies.renew.Goals as goal
use Rattle.search.proofs.copies.renew.Goals.{then-until-k, else-until-k}

-- what a copy's own numbers say, of those that it was made from
of_its_own : {p q : Float} {i j t : ℕ} {s u c : Segment} → p ≡ q → i ≡ j → s ≡ u → (i ≤ t) × Serving p i t s c → (j ≤ t) × Serving q j t u c
of_its_own e f g h = rw (← e, ← f, ← g) h

pub loop-k-preserved : goal.loop-k-preserved
loop-k-preserved c =
    let x = c.args in
    let l = c.loop-k in
    elim c.if-until-k.branch [
      | then-until-k w ↦
          let here = w.new-here in
          let r = w.reach in
          let serves = of_its_own here.ensures.0 here.ensures.1 here.ensures.2 r.ensures in
          rw (w.until-is, w.copies-is) (
            renewed x.period x.i x.list.now l.until l.copies l.k r.result here.result.copy _ (omega arith) (omega arith) l.invariant.0 serves.1,
            noted_up x.period x.i x.list.now l.until l.copies l.k r.result here.result.copy _ (omega arith) (omega arith) l.invariant.0 serves.1 serves.0 l.invariant.1,
          )
      | else-until-k w ↦ rw (w.until-is, w.copies-is) (l.invariant.0, below_more _ _ l.invariant.1 w.if-until-k.false)
    ]

pub returns : goal.returns
returns c =
    let x = c.args in
    let l = c.loop-k in (
      all_renewed x.period x.i x.list.now l.until l.copies (omega arith) l.invariant.0 (λ j h. l.invariant.1 j (omega arith)),
      ready_next x.period x.i x.list.now l.until l.copies (omega arith) l.invariant.0,
    )
