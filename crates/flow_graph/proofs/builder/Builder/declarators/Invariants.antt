use Rattle.std.proofs.Common.{◌≡◌, ◌≤◌, drop, length}
use Rattle.c_tree.specs.Views.{nodes_in}
use Rattle.flow_graph.specs.CPaths.TreeFlow.{declarators_row}
use Rattle.flow_graph.specs.CPaths.Building.{row_blocks}
use Rattle.flow_graph.specs.Values.{drafts_of, made}
use Rattle.flow_graph.proofs.builder.Builder.declarators.Given as goal

-- what was built begins with the declarators from here on
abbrev pub invariant-loop-left : goal.invariant-loop-left
invariant-loop-left g l = record {
  within : l.left ≤ length l.all;
  made : made l.self.drafts.items l.first ≡ row_blocks (declarators_row (g.F.Facts.known l.facts) (nodes_in (drop l.left l.all))) l.next (drafts_of l.fn.self.drafts.items);
}

abbrev pub decreases-loop-left : goal.decreases-loop-left
decreases-loop-left g l = l.left
