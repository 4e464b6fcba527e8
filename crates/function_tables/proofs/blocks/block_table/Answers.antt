use Rattle.function_tables.proofs.OfBlocks.{block-table}
use Rattle.function_tables.proofs.blocks.block_table.Goals as goal
use Rattle.metal_tree.specs.Whole.{machine_view}

pub returns : goal.returns
returns c =
    block-table (machine_view c.args.machine.now) c.args.depth c.args.program.now.units.items c.unit-unit.result c.args.function.now c.frame_of-frame.result c.args.block.now c.as_slice.result.now
    (record { rules = c.in_ok-rules.rules; callee = c.callee_at-callee.result })
    c.unit-unit.ensures c.requires.filed c.frame_of-frame.ensures c.as_slice.ensures.value c.in_ok-rules.ensures c.callee_at-callee.ensures
