use Rattle.std.proofs.Common.{◌≡◌, ◌++◌, List, map, drop}
use Rattle.type_rules.specs.Functions.{Defined}
use Rattle.call_graph.specs.OfPrograms.Definitions.{defined_by}
use Rattle.call_graph.specs.OfPrograms.Repeats.{first_repeat}
use Rattle.typed_unit.specs.Functions.{function_of}
use Rattle.call_graph.proofs.linking.add_unit.Given as goal

-- the functions up to here are kept, and the first repeat is among those that are left
abbrev pub invariant-loop-function : goal.invariant-loop-function
invariant-loop-function l = record {
  kept : defined_by l.functions.all.items ++ map function_of (drop l.function-index l.function-items) ≡ defined_by l.fn.functions.all.items ++ map function_of l.unit.functions.items;
  goes_on : (rest : List Defined) → first_repeat (defined_by l.fn.functions.all.items) (map function_of l.unit.functions.items ++ rest) ≡ first_repeat (defined_by l.functions.all.items) (map function_of (drop l.function-index l.function-items) ++ rest);
}
