use Rattle.std.proofs.Common.{map, length, ◌∙◌, sym, ap, subst}
use Rattle.std.proofs.lemmas.List.{length-map}
use Rattle.path_model.proofs.CheckerGraphs.Units.{functions-are, apart-texts}
use Rattle.typed_unit.specs.Texts.{texts_of}
use Rattle.flow_graph.specs.Seen.{graph_in}
use Rattle.least_set.specs.Logs.{IsExactly}
use Rattle.relevant.specs.RelevantLists.Filed.{AreFiled}
use Rattle.relevant.proofs.RelevantLists.Relevances.{are-lists}
use Rattle.relevant.proofs.relevant_lists.lists.relevant_to.Goals as goal
use Rattle.relevant.proofs.RelevantObjects.Gathered.{if-both}
use Rattle.relevant.specs.RelevantRows.Rows.{AreRows}
use Rattle.relevant.specs.RelevantSteps.Families.{RelevantTo}
use Rattle.relevant.specs.RelevantSteps.Steps.{Base}
use Rattle.relevant.proofs.RelevantSteps.Sources.{relevant-object}

pub returns : goal.returns
returns c =
    let units = c.args.program.now.units.items in
    let ts = texts_of units in
    let gs = map (λ t. graph_in t.graph.now) c.args.tables.now in
    let sources = c.args.sources in
    let found = c.in_ok-found.found.keys in
    let apart = apart-texts units c.args.program.now.numbered in
    if-both _ _ _ c.filed.result
    (λ lists many filed k deep are.
    let rows = subst (AreRows k ts gs) (sym c.as_slice.ensures.value) (c.in_ok-rows.ensures k are) in
    let bound = subst (λ l. IsExactly l (Base k ts gs sources)) (sym c.as_slice-2.ensures.value) (c.in_ok-bound.ensures k are) in
    let all = c.in_ok-found.ensures.relevant sources k ts gs (sym deep) are.graphs apart rows bound in
    let count = length-map lists.items (λ os. os.items) ∙ many ∙ c.count.ensures ∙ ap length (sym (functions-are units)) in
    ∣ are-lists k ts (RelevantTo sources k ts) found (map (λ os. os.items) lists.items) (relevant-object sources k ts) all count
    (subst (λ ms. AreFiled ms (map (λ os. os.items) lists.items)) c.as_slice-3.ensures.keys filed) ∣₁)
    c.filed.ensures.count c.filed.ensures.filed
