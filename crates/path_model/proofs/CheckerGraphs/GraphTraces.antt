-- The program in blocks has the traces of the program, so it has the same reports, and the same objects are relevant.
use Rattle.std.proofs.Common.{◌≡◌, ◌↔◌, ℕ, List, Option, None, Some, slice_get, refl, sym, subst}
use Rattle.flow_graph.specs.CPaths.Building.{Graph, graph_of}
use Rattle.flow_graph.specs.CPaths.Facts.{Facts}
use Rattle.flow_graph.specs.CPaths.Traces.{Definition}
use Rattle.flow_graph.proofs.CPaths.BuiltGraphs.{built_traces}
use Rattle.flow_graph.proofs.CPaths.EngineGraphs.{blocks_have_steps}
use Rattle.flow_graph.proofs.CPaths.SoundDrafts.{built_graph_sound}
use Rattle.type_rules.specs.Options.{if_there, ◌>?◌}
use Rattle.path_model.specs.CheckerGraphs.Graphs.{number_of, graph_at, IsFlowGraph, AreGraphs, flow_graphs}
use Rattle.path_model.proofs.CheckerGraphs.Numbers.{defines-file, found-at}
use Rattle.path_model.proofs.CheckerGraphs.SameTraces.{closed_on}
use Rattle.path_model.specs.CheckerModel.Checkers.{model, origins}
use Rattle.path_model.specs.CheckerModel.Happenings.{Function}
use Rattle.path_model.specs.CheckerModel.Reports.{Checker}
use Rattle.path_model.specs.CheckerPrograms.Paths.{program}
use Rattle.path_model.specs.CheckerPrograms.Relevant.{Relevant, Followed}
use Rattle.path_model.specs.CheckerPrograms.Roots.{followed_into, IsRootFunction}
use Rattle.path_model.specs.CheckerPrograms.Texts.{functions_in, function_of, empty, with_close, definition_of, flow_facts, happening, site, type_table}
use Rattle.typed_unit.specs.Texts.{Text}
use Rattle.path_model.proofs.CheckerPrograms.Closed.{closed, followed-closed}
use Rattle.call_graph.specs.FunctionGraphs.Known.{facts_of}
use Rattle.report_model.specs.declared.report.Report.{Report}
use Rattle.path_theory.specs.FlatPaths.{InErrors}
use Rattle.path_theory.specs.FlowGraphs.{supergraph}
use Rattle.path_theory.specs.Paths.{Reported}
use Rattle.path_theory.specs.Relevant.{IsClosed}
use Rattle.path_theory.specs.Supergraph.{Supergraph}
use Rattle.path_theory.specs.Walks.{HasTraces}
use Rattle.path_theory.proofs.FlatPaths.{in_errors}
use Rattle.path_theory.proofs.Traces.{reported_on}

built : (F : Facts) (d : Definition) → IsFlowGraph F d (graph_of F d)
built F d = record { sound = built_graph_sound F d; traces = built_traces F d }

module _ (ts : List Text) (gs : List Graph) (A : AreGraphs ts gs) where
  given : (f : Function) (n : ℕ) (g : Graph) → number_of (functions_in ts) f ≡ Some n → slice_get gs n ≡ Some g → IsFlowGraph (flow_facts ts f) (definition_of ts f) g
  given f n g e k =
      let x = found-at (functions_in ts) f n e in
      let d = x.found in
      subst (λ (i : ℕ). IsFlowGraph (facts_of (type_table ts i) i (functions_in ts)) (definition_of ts f) g) (defines-file d f x.same)
      (subst (λ o. IsFlowGraph (flow_facts ts (function_of d)) (if_there o (empty f.place) (with_close ts)) g) (sym x.placed) (A.each n d g x.numbered k))

  -- each function, whether it is one of the program or none, has a graph with its traces
  pub graph-fits : (f : Function) → IsFlowGraph (flow_facts ts f) (definition_of ts f) (graph_at ts gs f)
  graph-fits f = by (number_of (functions_in ts) f) refl
    where
      at : (n : ℕ) → number_of (functions_in ts) f ≡ Some n → (o : Option Graph) → slice_get gs n ≡ o
          → IsFlowGraph (flow_facts ts f) (definition_of ts f) (if_there o (graph_of (flow_facts ts f) (definition_of ts f)) (λ g. g))
      at n e None k = built (flow_facts ts f) (definition_of ts f)
      at n e (Some g) k = given f n g e k

      by : (o : Option ℕ) → number_of (functions_in ts) f ≡ o
          → IsFlowGraph (flow_facts ts f) (definition_of ts f) (if_there (o >? slice_get gs) (graph_of (flow_facts ts f) (definition_of ts f)) (λ g. g))
      by None e = built (flow_facts ts f) (definition_of ts f)
      by (Some n) e = at n e (slice_get gs n) refl

  module _ (c : Checker) where
    abbrev pub in_blocks : Supergraph (model c)
    in_blocks = supergraph (model c) (flow_graphs c ts gs)

    pub graphs_have_traces : HasTraces (model c) (program c ts) in_blocks × HasTraces (model c) in_blocks (program c ts)
    graphs_have_traces =
        blocks_have_steps (model c) (flow_facts ts) (definition_of ts) (happening ts) (site c.depth ts) (graph_at ts gs) (IsRootFunction c.machine ts) (λ f s. followed_into c.machine s)
        (λ f. let x = graph-fits f in x.sound)
        (λ f. let x = graph-fits f in x.traces)

    -- the same reports are taken
    pub graphs_report : (r : Report) → Reported (model c) in_blocks r ↔ Reported (model c) (program c ts) r
    graphs_report r = (reported_on (model c) in_blocks (program c ts) graphs_have_traces.1 r, reported_on (model c) (program c ts) in_blocks graphs_have_traces.0 r)

    -- the same in words of flat paths
    pub graphs_err : (r : Report) → InErrors (model c) in_blocks r ↔ InErrors (model c) (program c ts) r
    graphs_err r =
        let a = in_errors (model c) in_blocks r in
        let b = in_errors (model c) (program c ts) r in
        let s = graphs_report r in
        ((λ w. b.1 (s.0 (a.0 w))), (λ w. a.1 (s.1 (b.0 w))))

    -- the relevant objects may be followed alone
    pub closed_in_graphs : IsClosed (model c) in_blocks (origins c) (Relevant c ts)
    closed_in_graphs = closed_on (model c) in_blocks (program c ts) graphs_have_traces.1 (origins c) (Relevant c ts) (closed c ts)

    pub followed_in_graphs : IsClosed (model c) in_blocks (origins c) (Followed c ts)
    followed_in_graphs = closed_on (model c) in_blocks (program c ts) graphs_have_traces.1 (origins c) (Followed c ts) (followed-closed c ts)
