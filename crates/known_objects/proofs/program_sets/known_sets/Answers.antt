use Rattle.std.proofs.Common.{map, length, ◌∙◌, sym, ap, subst}
use Rattle.flow_graph.specs.Seen.{graph_in}
use Rattle.known_objects.proofs.program_sets.known_sets.Goals as goal
use Rattle.known_search.proofs.Lists.{if-ok}
use Rattle.path_model.proofs.CheckerGraphs.Units.{functions-are, apart-texts}
use Rattle.relevant.specs.RelevantRows.Rows.{AreRows}
use Rattle.typed_unit.specs.Texts.{texts_of}

pub returns : goal.returns
returns c =
    let units = c.args.program.now.units.items in
    let ts = texts_of units in
    let gs = map (λ t. graph_in t.graph.now) c.args.tables.now in
    if-ok _ _ c.sets_over.result
    (λ sets known k deep are plain.
    let rows = subst (AreRows k ts gs) (sym c.as_slice.ensures.value) (c.in_ok-rows.ensures k are) in
    ∣ known k ts gs deep are.graphs (apart-texts units c.args.program.now.numbered) rows (ap length (functions-are units) ∙ sym c.count.ensures) plain ∣₁)
    c.sets_over.ensures
