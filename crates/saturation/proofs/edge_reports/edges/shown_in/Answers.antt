use Rattle.std.proofs.Common.{◌∙◌, List, map, slice_get, sym, ap, subst}
use Rattle.std.specs.Option.{option_copied}
use Rattle.state_tuples.specs.declared.applied_rules.rules.EventRules.{EventRules}
use Rattle.block_flows.specs.Events.{AreOfEvents}
use Rattle.block_flows.specs.Firings.{fire_in, TakenAt}
use Rattle.block_flows.specs.declared.taken_rules.Firing.{Firing}
use Rattle.path_model.specs.CheckerPrograms.Texts.{function_of}
use Rattle.saturation.specs.EdgeReports.Said.{happening_at}
use Rattle.saturation.proofs.EdgeReports.CrossedReports.{shown-here}
use Rattle.saturation.proofs.EdgeReports.ShownEdges.{events_of, rules-are, nothing-there, edge-shows}
use Rattle.saturation.proofs.EdgeReports.TakenRules.{taken-rule}
use Rattle.function_tables.specs.EngineTables.Known.{checker_in, texts_in, graphs_in, objects_in}
use Rattle.function_tables.proofs.EngineTables.Places.{if-ok, if-some, place}
use Rattle.least_set.specs.Logs.{IsExactly}
use Rattle.path_edges.specs.Relations.{ShowsAt}
use Rattle.block_flows.proofs.TupleFlows.Lists.{contains-map}
use Rattle.saturation.proofs.edge_reports.edges.shown_in.Goals as goal

pub returns-in_default-item : goal.returns-in_default-item
returns-in_default-item c = λ k h.
    let t = c.args.tables.now in
    let e = c.args.edge.now in
    let f = c.args.frame.now in
    let u = c.in-Some.unit in
    let p = place t e.context.function f k h in
    let at = if-some _ c.unit_of.result u c.in-Some.is c.unit_of.ensures.there p.defined p.is in
    let missing = ap (λ l. slice_get l e.block) (sym c.as_slice.ensures.value) ∙ sym c.item.ensures ∙ ap option_copied c.in_default-item.is in
    subst (λ l. IsExactly l (ShowsAt (checker_in t) (texts_in t) (graphs_in t) (objects_in t) e)) (sym c.new-in_default-item.ensures.items) (nothing-there t e f p u at missing)

pub returns : goal.returns
returns c =
    let t = c.args.tables.now in
    let e = c.args.edge.now in
    let f = c.args.frame.now in
    let u = c.in-Some.unit in
    let fires = c.as_slice-2.result.now in
    if-ok _ _ c.said_by_all.result
    (λ list said k h.
    let p = place t e.context.function f k h in
    let fn = function_of p.defined in
    let at = if-some _ c.unit_of.result u c.in-Some.is c.unit_of.ensures.there p.defined p.is in
    let hs = map (happening_at u.now) (events_of f e) in
    let there = ap (λ l. slice_get l e.block) (sym c.as_slice.ensures.value) ∙ sym c.item.ensures ∙ ap option_copied c.in-Some-item.is in
    let are = subst (λ (l : List EventRules). AreOfEvents (checker_in t).machine t.depth fn hs l) (sym c.as_slice-rules.ensures.value) (rules-are t e f p u at c.in-Some-item.block.now there) in
    let taken = TakenAt (checker_in t) hs fn e.is_root f.objects.now.keys e.tuple in
    let exact = subst (λ (l : List Firing). IsExactly (map fire_in l) taken) (sym c.as_slice-2.ensures.value) (c.in_ok-taken.ensures.rules (checker_in t) fn hs are p.plain) in
    let rule = taken-rule (record { machine = t.machine; number = t.number; names = t.names }) t.depth fn e.is_root f.objects.now.keys hs e.tuple in
    edge-shows t e f p u at list.items
    (shown-here (checker_in t) fn e.is_root f.objects.now.keys hs e.tuple fires list.items exact
    (said t.depth fn (events_of f e) are (λ x m. rule x (exact.0 (fire_in x) (contains-map fire_in fires x m))))))
    c.said_by_all.ensures
