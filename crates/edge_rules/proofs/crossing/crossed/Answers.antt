use Rattle.std.proofs.Common.{◌∙◌, sym, subst, ap, slice_get}
use Rattle.std.specs.Option.{option_copied}
use Rattle.block_flows.specs.Events.{AreOfEvents}
use Rattle.path_model.specs.CheckerPrograms.Texts.{function_of}
use Rattle.flow_graph.specs.Seen.{graph_in}
use Rattle.function_tables.specs.EngineTables.Known.{checker_in, texts_in}
use Rattle.edge_rules.proofs.CrossedBlocks.{crossed}
use Rattle.function_tables.proofs.EngineTables.Places.{if-ok, place, rules-there, rules-none}
use Rattle.edge_rules.proofs.crossing.crossed.Goals as goal

pub returns-in-Some : goal.returns-in-Some
returns-in-Some c =
    let t = c.args.tables.now in
    let e = c.args.edge.now in
    let f = c.args.frame.now in
    if-ok _ _ c.ends.result
    (λ list x k h.
    let p = place t e.context.function f k h in
    let there = ap (λ l. slice_get l e.block) (sym c.as_slice.ensures.value) ∙ sym c.item.ensures ∙ ap option_copied c.in-Some.is in
    let rules = rules-there (checker_in t).machine t.depth (texts_in t) p.defined (graph_in f.table.now.graph.now).blocks f.table.now.blocks.items e.block c.in-Some.block.now p.blocks there in
    crossed t e f p list.items (x (checker_in t) (function_of p.defined) _ (subst (AreOfEvents (checker_in t).machine t.depth (function_of p.defined) _) (sym c.as_slice-in-Some.ensures.value) rules) p.plain))
    c.ends.ensures.exact

pub returns-in-None : goal.returns-in-None
returns-in-None c =
    let t = c.args.tables.now in
    let e = c.args.edge.now in
    let f = c.args.frame.now in
    if-ok _ _ c.ends-in-None.result
    (λ list x k h.
    let p = place t e.context.function f k h in
    let missing = ap (λ l. slice_get l e.block) (sym c.as_slice.ensures.value) ∙ sym c.item.ensures ∙ ap option_copied c.in-None.is in
    crossed t e f p list.items (x (checker_in t) (function_of p.defined) _ (rules-none (checker_in t).machine t.depth (texts_in t) p.defined (graph_in f.table.now.graph.now).blocks f.table.now.blocks.items e.block p.blocks missing) p.plain))
    c.ends-in-None.ensures.exact
