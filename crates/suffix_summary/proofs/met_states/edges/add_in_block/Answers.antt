use Rattle.std.proofs.Common.{◌∙◌, List, map, slice_get, sym, ap, subst}
use Rattle.std.specs.Option.{option_copied}
use Rattle.block_flows.specs.Events.{AreOfEvents}
use Rattle.flow_graph.specs.CPaths.BlockGraphs.{events_at}
use Rattle.flow_graph.specs.Seen.{graph_in}
use Rattle.function_tables.proofs.EngineTables.Places.{if-ok, rules-there, rules-none}
use Rattle.numbered_program.specs.Views.{swapped}
use Rattle.path_model.specs.CheckerPrograms.Texts.{function_of, happening}
use Rattle.state_tuples.specs.declared.applied_rules.rules.EventRules.{EventRules}
use Rattle.suffix_summary.proofs.MetStates.Gifts.{no-events}
use Rattle.suffix_summary.proofs.met_states.edges.add_in_block.Goals as goal

pub returns-in-Some : goal.returns-in-Some
returns-in-Some c =
    let e = c.args.edge.now in
    let tables = c.args.table.now.blocks.items in
    let b = swapped (graph_in c.args.table.now.graph.now).entry e.block in
    let number = c.swapped-number.ensures ∙ ap (λ first. swapped first e.block) c.entry.ensures.number in
    let at = ap (λ n. slice_get tables n) (sym number) ∙ ap (λ l. slice_get l c.swapped-number.result) (sym c.as_slice.ensures.value) ∙ sym c.item.ensures ∙ ap option_copied c.in-Some.is in
    if-ok _ _ c.add_at_events.result
    (λ u added k ts d bs are.
    let hs = map (happening ts (function_of d)) (events_at (slice_get bs b)) in
    added k (function_of d) hs
    (subst (λ (l : List EventRules). AreOfEvents k.machine k.depth (function_of d) hs l) (sym c.as_slice-rules.ensures.value) (rules-there k.machine k.depth ts d bs tables b c.in-Some.block.now are at)))
    c.add_at_events.ensures

pub returns-in-None : goal.returns-in-None
returns-in-None c =
    let e = c.args.edge.now in
    let tables = c.args.table.now.blocks.items in
    let b = swapped (graph_in c.args.table.now.graph.now).entry e.block in
    let number = c.swapped-number.ensures ∙ ap (λ first. swapped first e.block) c.entry.ensures.number in
    let none = ap (λ n. slice_get tables n) (sym number) ∙ ap (λ l. slice_get l c.swapped-number.result) (sym c.as_slice.ensures.value) ∙ sym c.item.ensures ∙ ap option_copied c.in-None.is in
    λ k ts d bs are.
    no-events k (function_of d) c.args.is_root e.context.function e.tuple.global (map (happening ts (function_of d)) (events_at (slice_get bs b))) c.args.found.now.items
    (rules-none k.machine k.depth ts d bs tables b are none)
