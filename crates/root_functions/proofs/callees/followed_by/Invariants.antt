use Rattle.std.proofs.Common.{length, take}
use Rattle.root_functions.specs.CallSites.Calls.{nodes_at}
use Rattle.least_set.specs.Logs.{IsExactly}
use Rattle.metal_tree.specs.Whole.{machine_view}
use Rattle.call_graph.specs.OfPrograms.Definitions.{definitions, trees_in}
use Rattle.root_functions.specs.Callees.{FollowedBy, AreBelow}
use Rattle.root_functions.proofs.callees.followed_by.Given as goal

-- the functions to which the calls before this one lead
abbrev pub invariant-loop-i : goal.invariant-loop-i
invariant-loop-i l = record {
  exact : IsExactly l.numbers.items (FollowedBy (machine_view l.machine) l.program.units.items l.file (nodes_at (take l.i l.calls.items)));
  below : AreBelow (length (definitions (trees_in l.program.units.items))) l.numbers.items;
}
