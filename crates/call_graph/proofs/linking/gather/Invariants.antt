use Rattle.std.proofs.Common.{◌≡◌, ◌++◌, [], drop}
use Rattle.call_graph.specs.OfPrograms.Definitions.{defined_by, kept_in}
use Rattle.call_graph.specs.OfPrograms.Repeats.{first_repeat}
use Rattle.call_graph.proofs.linking.gather.Given as goal

-- the functions of the units up to here are kept, and the first repeat is among those that are left
abbrev pub invariant-loop-i : goal.invariant-loop-i
invariant-loop-i l = record {
  kept : defined_by l.functions.all.items ++ kept_in (drop l.i l.units.items) ≡ kept_in l.units.items;
  goes_on : first_repeat [] (kept_in l.units.items) ≡ first_repeat (defined_by l.functions.all.items) (kept_in (drop l.i l.units.items));
}
