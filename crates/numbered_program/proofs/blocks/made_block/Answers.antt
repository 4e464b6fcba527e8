use Rattle.flow_graph.specs.Values.{ending_of}
use Rattle.numbered_program.proofs.KnownBlocks.{block_is}
use Rattle.numbered_program.proofs.blocks.made_block.Goals as goal

pub returns : goal.returns
returns c = λ states f i there ends.
    block_is states c.args.source.now f i c.args.block c.args.table.now c.as_slice.result.now (record { rows = c.in_ok-rows.rows; ending = c.in_ok-ending.ending }) there c.as_slice.ensures.value c.in_ok-rows.ensures
    (ending_of c.args.end.now) ends (c.in_ok-ending.ensures states f i ends)
