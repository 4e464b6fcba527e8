use Rattle.std.proofs.Common.{drop, map}
use Rattle.c_tree.specs.Views.{nodes_in, nodes_of}
use Rattle.typed_unit.specs.Functions.{function_of}
use Rattle.typed_unit.specs.Tables.{table_of}
use Rattle.unit_typing.specs.Scopes.{scopes_of}
use Rattle.unit_typing.specs.Units.{KnowsStatics}
use Rattle.unit_typing.proofs.UnitSteps.{GoesOn}
use Rattle.unit_typing.proofs.units.type_definitions.Given as goal

abbrev pub invariant-loop-tree : goal.invariant-loop-tree
invariant-loop-tree l = record {
  statics : KnowsStatics l.statics (scopes_of l.scopes);
  left : GoesOn (scopes_of l.fn.scopes) (nodes_of l.chunks) (table_of l.fn.table) (map function_of l.fn.functions.items) (scopes_of l.scopes) (nodes_in (drop l.tree-index l.tree-items)) (table_of l.table) (map function_of l.functions.items);
}
