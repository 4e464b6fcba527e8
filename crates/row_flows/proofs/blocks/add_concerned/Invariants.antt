use Rattle.std.proofs.Common.{◌≡◌, ◌++◌, take}
use Rattle.std.specs.Prelude.{flat_map}
use Rattle.row_flows.specs.Concerns.{bound_numbers, moved_numbers}
use Rattle.row_flows.proofs.blocks.add_concerned.Given as goal

-- what was touched and gone through
abbrev pub invariant-loop-touched : goal.invariant-loop-touched
invariant-loop-touched l = l.list.items ≡ l.fn.list.items ++ flat_map moved_numbers (take l.touched-index l.touched-items)

-- the alternatives that were gone through
abbrev pub invariant-loop-applied : goal.invariant-loop-applied
invariant-loop-applied l = l.list.items ≡ l.initial.list.items ++ flat_map bound_numbers (take l.applied-index l.applied-items)
