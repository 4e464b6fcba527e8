use Rattle.numbered_program.proofs.KnownRows.{function_is}
use Rattle.numbered_program.proofs.functions.made_rows.Goals as goal

pub returns : goal.returns
returns c = λ states f i are.
    function_is states c.args.source.now f i (record { blocks = c.in_ok-blocks.blocks; own = c.in_ok-own.own; is_root = c.contains-is_root.result }) c.as_slice.result.now c.args.roots.now.keys
    (c.in_ok-blocks.ensures states f i) c.in_ok-own.ensures c.as_slice.ensures.keys are c.contains-is_root.ensures
