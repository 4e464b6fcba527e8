use Rattle.std.proofs.Common.{refl}
use Rattle.function_tables.proofs.OfFunctions.{filed, function-table}
use Rattle.function_tables.proofs.tables.function_table.Goals as goal
use Rattle.metal_tree.specs.Whole.{machine_view}

pub block_tables-requires-clause-filed : goal.block_tables-requires-clause-filed
block_tables-requires-clause-filed c = filed c.args.program.now.units.items c.args.f.number c.function-function.result.now c.function-function.ensures.defined

pub returns-clause-table : goal.returns-clause-table
returns-clause-table c =
    function-table (machine_view c.args.machine.now) c.args.depth c.args.program.now.units.items c.args.f.number c.function-function.result.now (record { graph = c.args.graph; blocks = c.in_ok-blocks.blocks })
    c.function-function.ensures.defined c.requires.graph c.in_ok-blocks.ensures

pub returns-clause-graph : goal.returns-clause-graph
returns-clause-graph c = refl
