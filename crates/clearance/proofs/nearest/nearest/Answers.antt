-- `clearance::nearest::nearest` is the larger of `bar` and the least key: `bar` itself where a segment stops, else what
-- the scan of all answers.
use Rattle.clearance.proofs.Stops.{stopped}
use Rattle.clearance.proofs.nearest.nearest.Goals as goal

pub returns-in-Some : goal.returns-in-Some
returns-in-Some c = let x = c.args in stopped x.p x.bar c.in-Some.place x.list.now c.well_formed.1.0.1 c.in-Some.ensures
