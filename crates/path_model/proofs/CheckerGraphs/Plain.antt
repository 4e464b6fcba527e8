-- Each program has such graphs: those of the plain builder.
use Rattle.std.proofs.Common.{◌≡◌, List, map, Some, ◌∙◌, sym, ap, subst}
use Rattle.std.proofs.lemmas.List.{length-map}
use Rattle.std.proofs.lemmas.Option.{slice_get-map}
use Rattle.std.specs.Option.{option_map}
use Rattle.flow_graph.specs.CPaths.Building.{Graph, graph_of}
use Rattle.flow_graph.proofs.CPaths.BuiltGraphs.{built_traces}
use Rattle.flow_graph.proofs.CPaths.SoundDrafts.{built_graph_sound}
use Rattle.type_rules.specs.Functions.{Defined}
use Rattle.path_model.specs.CheckerGraphs.Graphs.{IsFlowGraphIn, AreGraphs}
use Rattle.path_model.specs.CheckerPrograms.Texts.{functions_in, function_of, with_close, flow_facts}
use Rattle.typed_unit.specs.Texts.{Text}

one-graph : (g h : Graph) → Some g ≡ Some h → g ≡ h
one-graph g h e = cc

module _ (ts : List Text) where
  abbrev plain : Defined → Graph
  plain d = graph_of (flow_facts ts (function_of d)) (with_close ts d)

  plain-fits : (d : Defined) → IsFlowGraphIn ts d (plain d)
  plain-fits d = record { sound = built_graph_sound (flow_facts ts (function_of d)) (with_close ts d); traces = built_traces (flow_facts ts (function_of d)) (with_close ts d) }

  pub plain-graphs : AreGraphs ts (map plain (functions_in ts))
  plain-graphs = record {
    count = length-map (functions_in ts) plain;
    each = λ n d g e k.
        let same = one-graph (plain d) g (sym (slice_get-map plain (functions_in ts) n ∙ ap (option_map plain) e) ∙ k) in
        subst (λ (x : Graph). IsFlowGraphIn ts d x) same (plain-fits d);
  }
