use Rattle.std.proofs.Common.{◌≡◌, length}
use Rattle.typed_unit.specs.Texts.{texts_of}
use Rattle.metal_tree.specs.Whole.{machine_view}
use Rattle.call_graph.specs.OfPrograms.Definitions.{definitions, trees_in}
use Rattle.root_functions.specs.Callees.{HaveCallees, LeadBelow}
use Rattle.root_functions.proofs.callees.all_callees.Given as goal

-- the rows of the functions before this one
abbrev pub invariant-loop-number : goal.invariant-loop-number
invariant-loop-number l = record {
  count : length l.rows.items ≡ l.number;
  exact : ∥ HaveCallees (machine_view l.machine) (texts_of l.program.units.items) l.rows.items ∥₁;
  below : LeadBelow (length (definitions (trees_in l.program.units.items))) l.rows.items;
}
