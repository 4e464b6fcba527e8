use Rattle.std.proofs.Common.{◌∙◌, sym, ap}
use Rattle.std.specs.Option.{option_map}
use Rattle.flow_graph.specs.Values.{ending_of}
use Rattle.function_tables.proofs.EngineTables.Places.{if-ok}
use Rattle.numbered_program.proofs.KnownBlocks.{no_end}
use Rattle.numbered_program.proofs.blocks.block_with.Goals as goal

pub returns-in-Some : goal.returns-in-Some
returns-in-Some c = if-ok _ _ c.made_block.result (λ r x states f i there. x states f i there (sym c.end_at.ensures ∙ ap (option_map (λ e. ending_of e.now)) c.in-Some.is)) c.made_block.ensures

pub returns-in-None : goal.returns-in-None
returns-in-None c =
    if-ok _ _ c.empty.result
    (λ r x states f i there. absurd (no_end states c.args.source.now f i c.args.block c.args.table.now there (sym c.end_at.ensures ∙ ap (option_map (λ e. ending_of e.now)) c.in-None.is)))
    c.empty.ensures
