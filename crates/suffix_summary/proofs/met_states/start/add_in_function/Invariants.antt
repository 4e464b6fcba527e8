use Rattle.std.proofs.Common.{List, take}
use Rattle.flow_graph.specs.CPaths.Graphs.{Block}
use Rattle.function_tables.specs.Tables.{AreBlockTables}
use Rattle.least_set.specs.Logs.{Adds, SomeGives}
use Rattle.path_model.specs.CheckerModel.Reports.{Checker}
use Rattle.suffix_summary.specs.InStart.{GivesInBlock}
use Rattle.type_rules.specs.Functions.{Defined}
use Rattle.typed_unit.specs.Texts.{Text}
use Rattle.suffix_summary.proofs.met_states.start.add_in_function.Given as goal

-- what the blocks give that were gone through
abbrev pub invariant-loop-block : goal.invariant-loop-block
invariant-loop-block l = (c : Checker) (ts : List Text) (d : Defined) (bs : List Block) → AreBlockTables c.machine c.depth ts d bs l.table.blocks.items
    → Adds (SomeGives (GivesInBlock c ts d l.function) (take l.block-index bs)) l.fn.found.items l.found.items
