-- `leaves::square_root::digits` finds the digits of the radicand's root. The invariant is `Found`.
use Rattle.std.proofs.Common.{◌≡◌, ℕ, ◌-◌, ◌*◌, ◌%◌, ◌^◌, ◌≤◌, subst, arith}
use Rattle.leaves.specs.Engine.{radicand}
use Rattle.leaves.proofs.DigitSteps.{Found, Turn, turn, Turned, turned, finished}
use Rattle.leaves.proofs.square_root.digits.Goals as goal

-- the turn that a pass of the loop makes, before the digit is known and after
begun : (c : goal.In-loop-place)
    → Turn (radicand c.args.root c.args.places c.args.rest) c.loop-place.found c.loop-place.left (c.loop-place.place - 1)
begun c = let l = c.loop-place in turn _ l.found l.left l.place l.invariant (omega arith)

done : (c : goal.After-from-digit)
    → Turned (radicand c.args.root c.args.places c.args.rest) c.loop-place.found c.loop-place.left
    (c.loop-place.place - 1) (1 * 2 ^ (c.loop-place.place - 1) % 2 ^ 64) c.from-digit.result
done c =
    let l = c.loop-place in
    let t = begun c.before in
    turned _ l.found l.left (l.place - 1) (1 * 2 ^ (l.place - 1) % 2 ^ 64) c.from-digit.result t t.weight c.from-digit.ensures

pub overflow_shl-step : goal.overflow_shl-step
overflow_shl-step c = let t = begun c in omega (arith, t.below)

pub overflow_shl-found : goal.overflow_shl-found
overflow_shl-found c = let t = begun c.before in omega (arith, t.below)

pub overflow_mul-left-in-loop-place : goal.overflow_mul-left-in-loop-place
overflow_mul-left-in-loop-place c = let t = begun c.before in omega (arith, t.rest)

pub loop-place-preserved : goal.loop-place-preserved
loop-place-preserved c = (done c).next

pub returns : goal.returns
returns c =
    let l = c.loop-place in
    let n = radicand c.args.root c.args.places c.args.rest in
    let e = finished n l.found l.left (subst (Found n l.found l.left) (none l.place c.loop-place-test.false) l.invariant) in
    rw (e.0, e.1)
  where
    none : (p : ℕ) → p ≤ 0 → p ≡ 0
    none p h = omega arith
