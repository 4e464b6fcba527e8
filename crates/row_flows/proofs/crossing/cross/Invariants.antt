use Rattle.std.proofs.Common.{drop}
use Rattle.least_set.specs.Logs.{IsOnce}
use Rattle.row_flows.proofs.OnTheWay.{OnTheWay}
use Rattle.row_flows.proofs.crossing.cross.Given as goal

-- these stand before the events that are left
abbrev pub invariant-loop-event : goal.invariant-loop-event
invariant-loop-event l = record {
  way : OnTheWay l.is_root l.own l.rows l.fn.tuple (drop l.event l.rows) l.event l.now.items l.found.items;
  once : IsOnce l.now.items;
}
