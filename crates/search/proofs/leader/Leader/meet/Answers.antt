-- `search::leader::Leader::meet` meets the covered grid point: its least key, as far as it is above the leader's, and
-- the better candidate, counted.
use Rattle.search.proofs.Led.{same_or_above, met_key, met_candidate, met_clearance}
use Rattle.search.proofs.leader.Leader.meet.Goals as goal

pub raised-requires : goal.raised-requires
raised-requires c =
    let x = c.args in
    let l = x.self in
    same_or_above x.i x.j x.list.now l.best l.key l.is_key l.clearance_is _ c.grid_point.ensures _ c.nearest-near.ensures

pub invariant_of-result : goal.invariant_of-result
invariant_of-result c =
    let x = c.args in
    let l = x.self in
    record {
      is_key = met_key x.i x.j x.list.now l.best l.key l.is_key l.clearance_is _ c.grid_point.ensures _ c.nearest-near.ensures;
      clearance_is = met_clearance x.i x.j x.list.now l.best l.key l.is_key l.clearance_is _ c.grid_point.ensures _ c.nearest-near.ensures _ c.raised.ensures _ c.visited.ensures;
    }

pub returns : goal.returns
returns c =
    let x = c.args in
    let l = x.self in
    met_candidate x.i x.j x.list.now l.best l.key l.is_key l.clearance_is _ c.grid_point.ensures _ c.nearest-near.ensures _ c.raised.ensures _ c.visited.ensures
