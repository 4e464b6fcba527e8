use Rattle.std.proofs.Common.{◌≡◌, ◌++◌, take}
use Rattle.std.specs.Prelude.{flat_map}
use Rattle.row_flows.specs.Behind.{given}
use Rattle.row_flows.proofs.behind.add_given.Given as goal

-- those of the touched objects that were gone through
abbrev pub invariant-loop-one : goal.invariant-loop-one
invariant-loop-one l = l.list.items ≡ l.fn.list.items ++ flat_map (given l.tuple) (take l.one-index l.touched)
