use Rattle.std.proofs.Common.{◌∙◌, sym, ap, slice_get}
use Rattle.std.specs.Option.{option_copied}
use Rattle.function_tables.proofs.EngineTables.Places.{callee-there, callee-missing}
use Rattle.function_tables.proofs.engine_tables.blocks.callee_at.Goals as goal
use Rattle.flow_graph.specs.CPaths.Graphs.{Calls}
use Rattle.flow_graph.specs.Seen.{graph_in}

pub returns-in-Some : goal.returns-in-Some
returns-in-Some c = λ m depth ts d es n next tables has.
    let t = c.args.table.now in
    let there = ap (λ l. slice_get l c.args.block) (sym c.as_slice.ensures.value) ∙ sym c.item.ensures ∙ ap option_copied c.in-Some.is in
    callee-there m depth ts d (graph_in t.graph.now).blocks t.blocks.items c.args.block c.in-Some.found.now es n next tables has there

pub returns-in-None : goal.returns-in-None
returns-in-None c = λ m depth ts d es n next tables has.
    let t = c.args.table.now in
    let missing = ap (λ l. slice_get l c.args.block) (sym c.as_slice.ensures.value) ∙ sym c.item.ensures ∙ ap option_copied c.in-None.is in
    absurd (callee-missing m depth ts d (graph_in t.graph.now).blocks t.blocks.items c.args.block es (Calls n next) tables has missing)
