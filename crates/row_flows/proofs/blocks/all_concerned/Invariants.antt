use Rattle.std.proofs.Common.{◌≡◌, take}
use Rattle.std.specs.Prelude.{flat_map}
use Rattle.row_flows.specs.Concerns.{concerned_by}
use Rattle.row_flows.proofs.blocks.all_concerned.Given as goal

-- the rows that were gone through
abbrev pub invariant-loop-row : goal.invariant-loop-row
invariant-loop-row l = l.list.items ≡ flat_map concerned_by (take l.row-index l.rows)
