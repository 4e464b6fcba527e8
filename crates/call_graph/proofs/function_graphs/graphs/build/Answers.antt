use Rattle.std.proofs.Common.{◌≡◌, [], Bor, IfOk, slice_get, ap, sym, subst₂, ◌∙◌}
use Rattle.c_tree.specs.declared.place.Place.{Place}
use Rattle.c_tree.specs.Views.{node_of}
use Rattle.flow_graph.specs.CPaths.Facts.{Facts}
use Rattle.type_rules.specs.Functions.{Defined}
use Rattle.type_rules.specs.Options.{if_there}
use Rattle.flow_graph.specs.Bodies.{HasTraces, StandsInText}
use Rattle.flow_graph.specs.Seen.{graph_in}
use Rattle.call_graph.specs.FunctionGraphs.Bodies.{tokens_in, definition_in}
use Rattle.call_graph.specs.FunctionGraphs.Closing.{closing_brace}
use Rattle.call_graph.specs.FunctionGraphs.Known.{facts_in}
use Rattle.call_graph.proofs.FunctionGraphs.Carried.{all_carried}
use Rattle.call_graph.proofs.function_graphs.graphs.build.Goals as goal
use Rattle.call_graph.specs.OfPrograms.Definitions.{definitions, trees_in}
use Rattle.typed_unit.specs.declared.typed_unit.TypedUnit.{TypedUnit}
use Rattle.typed_unit.specs.Functions.{function_of}

pub returns-clause-traces : goal.returns-clause-traces
returns-clause-traces c =
    let units = c.args.program.now.units.items in
    let f = c.function-function.result.now in
    let tokens : tokens_in units f.file ≡ c.unit-unit.result.now.unit.tokens.now = ap (λ o. if_there o [] (λ (u : Bor TypedUnit). u.now.unit.tokens.now)) c.unit-unit.ensures in
    let close = c.closing_brace-close.ensures ∙ ap (λ ts. closing_brace ts f.body.now.first) (sym tokens) in
    let traces = subst₂ (λ (F : Facts) (p : Place). IfOk c.build_body.result (λ g. HasTraces (graph_in g) F (record { place = f.place; body = node_of f.body.now; close = p }))) c.new-facts.ensures close c.build_body.ensures.traces in
    all_carried (λ g (d : Defined). HasTraces (graph_in g) (facts_in units d.file) (definition_in units d)) c.build_body.result (slice_get (definitions (trees_in units)) c.args.f.number) (function_of f) c.function-function.ensures.defined traces

pub returns-clause-text : goal.returns-clause-text
returns-clause-text c =
    let units = c.args.program.now.units.items in
    let f = c.function-function.result.now in
    let tokens : tokens_in units f.file ≡ c.unit-unit.result.now.unit.tokens.now = ap (λ o. if_there o [] (λ (u : Bor TypedUnit). u.now.unit.tokens.now)) c.unit-unit.ensures in
    let close = c.closing_brace-close.ensures ∙ ap (λ ts. closing_brace ts f.body.now.first) (sym tokens) in
    let text = subst₂ (λ (F : Facts) (p : Place). IfOk c.build_body.result (λ g. StandsInText (graph_in g) F (record { place = f.place; body = node_of f.body.now; close = p }))) c.new-facts.ensures close c.build_body.ensures.text in
    all_carried (λ g (d : Defined). StandsInText (graph_in g) (facts_in units d.file) (definition_in units d)) c.build_body.result (slice_get (definitions (trees_in units)) c.args.f.number) (function_of f) c.function-function.ensures.defined text
