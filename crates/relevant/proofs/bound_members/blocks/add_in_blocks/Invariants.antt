use Rattle.std.proofs.Common.{ℕ, List, take}
use Rattle.relevant.specs.BoundMembers.Bound.{BoundIn}
use Rattle.relevant.proofs.bound_members.blocks.add_in_blocks.Given as goal
use Rattle.flow_graph.specs.CPaths.Graphs.{Block}
use Rattle.type_rules.specs.Functions.{Defined}
use Rattle.typed_unit.specs.Texts.{Text}
use Rattle.function_tables.specs.Tables.{AreBlockTables}
use Rattle.least_set.specs.Logs.{Adds, SomeGives}
use Rattle.metal_tree.specs.MetalMachines.Machine.{Machine}

-- what rules bind in the blocks before this one was put behind
abbrev pub invariant-loop-block : goal.invariant-loop-block
invariant-loop-block l =
    (m : Machine) (depth : ℕ) (ts : List Text) (d : Defined) (bs : List Block) → AreBlockTables m depth ts d bs l.tables
    → Adds (SomeGives (BoundIn l.sources m depth l.number ts d bs) (take l.block-index l.blocks)) l.fn.found.items l.found.items
