-- From the reports on the way over a block's events to those that an edge shows, and back.
use Rattle.std.proofs.Common.{◌≡◌, ◌↔◌, refl, List, [], map, None, Some, slice_get, Bor, sym, ap, subst, ◌∙◌}
use Rattle.block_flows.specs.Events.{AreOfEvents}
use Rattle.flow_graph.specs.CPaths.BlockGraphs.{events_at}
use Rattle.flow_graph.specs.CPaths.Building.{Graph}
use Rattle.flow_graph.specs.CPaths.Events.{Event}
use Rattle.path_model.specs.CheckerGraphs.Graphs.{flow_graphs, function_at}
use Rattle.path_model.specs.CheckerModel.Checkers.{model, origins}
use Rattle.path_model.specs.CheckerModel.Happenings.{Function, Happening}
use Rattle.path_model.specs.CheckerModel.Reports.{Checker}
use Rattle.block_flows.specs.FollowedLists.{mask_in}
use Rattle.c_objects.specs.Objects.{Object}
use Rattle.masked_paths.specs.Masked.{masked_events}
use Rattle.masked_paths.proofs.StrictFlows.Among.{shows_among}
use Rattle.path_model.specs.CheckerPrograms.Texts.{function_of, happening}
use Rattle.typed_unit.specs.Texts.{Text}
use Rattle.saturation.proofs.EdgeReports.AtEvents.{of-unit}
use Rattle.saturation.proofs.EdgeReports.CrossedReports.{ShowsHere, nothing-here}
use Rattle.saturation.specs.EdgeReports.Said.{happening_at}
use Rattle.function_tables.specs.EngineTables.Known.{checker_in, texts_in, graphs_in, objects_in}
use Rattle.function_tables.specs.declared.engine_tables.frames.Frame.{Frame}
use Rattle.function_tables.specs.declared.engine_tables.tables.Tables.{Tables}
use Rattle.function_tables.proofs.EngineTables.Places.{IsPlace, named, rules-there, rules-none}
use Rattle.flow_graph.specs.Seen.{graph_in}
use Rattle.function_tables.specs.declared.table.BlockTable.{BlockTable}
use Rattle.least_set.specs.Logs.{IsExactly}
use Rattle.least_set.proofs.Growing.{nothing}
use Rattle.path_edges.specs.declared.edges.Edge.{Edge}
use Rattle.block_flows.specs.Masks.{model_under, origins_under, objects_under}
use Rattle.path_edges.specs.Relations.{ShowsAt}
use Rattle.path_theory.specs.BlockEdges.{Shows}
use Rattle.report_model.specs.declared.report.Report.{Report}
use Rattle.block_flows.specs.TupleFlows.Facts.{fact_in, is_in}
use Rattle.block_flows.proofs.TupleFlows.Lists.{exactly-same}
use Rattle.typed_unit.specs.declared.typed_unit.TypedUnit.{TypedUnit}

one-function : (f g : Function) → Some f ≡ Some g → f ≡ g
one-function f g e = cc

-- the events of a block
abbrev pub events_of : Frame → Edge → List Event
events_of f e = events_at (slice_get (graph_in f.table.now.graph.now).blocks e.block)

module _ (t : Tables) (e : Edge) (f : Frame) (p : IsPlace t e.context.function f) (u : Bor TypedUnit) (at : slice_get t.program.now.units.items p.defined.place.file ≡ Some u) where
  abbrev c : Checker
  c = checker_in t

  abbrev fn : Function
  fn = function_of p.defined

  -- as they happen in the unit of the function
  pub events-in : map (happening (texts_in t) fn) (events_of f e) ≡ map (happening_at u.now) (events_of f e)
  events-in = of-unit t.program.now.units.items u fn (events_of f e) at

  events-are : map (happening_at u.now) (events_of f e) ≡ (flow_graphs c (texts_in t) (graphs_in t)).events fn e.block
  events-are = sym events-in ∙ ap (λ (g : Graph). map (happening (texts_in t) fn) (events_at (slice_get g.blocks e.block))) (sym p.graph)

  abbrev keys : List Object
  keys = f.objects.now.keys

  abbrev Here : List Happening → Report → Type 0
  Here hs = ShowsHere c fn e.is_root keys hs e.tuple

  abbrev events : Function → List Happening
  events z = (flow_graphs c (texts_in t) (graphs_in t)).events z e.block

  -- what is shown where these objects alone are followed is what is shown among those of the function
  abbrev Showing : Function → Report → Type 0
  Showing z r = Shows (model_under c (texts_in t) (objects_in t)) (origins_under c (texts_in t) (objects_in t)) (objects_under c (texts_in t) (objects_in t)) z e.is_root r
      (masked_events (model c) z (events z)) e.tuple.global (fact_in e.tuple)

  showing-is : (r : Report) → Showing fn r ↔ Here (events fn) r
  showing-is r = shows_among (model c) (origins c) (mask_in c (texts_in t) (objects_in t)) refl fn fn (is_in keys) (is_in keys) p.follows p.follows e.is_root r (events fn) e.tuple.global (fact_in e.tuple)

  here-shown : (r : Report) → Here (map (happening_at u.now) (events_of f e)) r → ShowsAt c (texts_in t) (graphs_in t) (objects_in t) e r
  here-shown r w = record {
    fn = fn;
    named = named t e.context.function p.defined p.is;
    shows = (showing-is r).1 (subst (λ hs. Here hs r) events-are w);
  }

  shown-here : (r : Report) → ShowsAt c (texts_in t) (graphs_in t) (objects_in t) e r → Here (map (happening_at u.now) (events_of f e)) r
  shown-here r s =
      let same : s.fn ≡ fn = one-function s.fn fn (sym s.named ∙ named t e.context.function p.defined p.is) in
      let there = subst (λ (z : Function). Showing z r) same s.shows in
      subst (λ hs. Here hs r) (sym events-are) ((showing-is r).0 there)

  -- the rules of the block
  pub rules-are : (b : BlockTable) → slice_get f.table.now.blocks.items e.block ≡ Some b → AreOfEvents c.machine t.depth fn (map (happening_at u.now) (events_of f e)) b.rules.items
  rules-are b q =
      subst (λ hs. AreOfEvents c.machine t.depth fn hs b.rules.items) events-in
      (rules-there c.machine t.depth (texts_in t) p.defined (graph_in f.table.now.graph.now).blocks f.table.now.blocks.items e.block b p.blocks q)

  pub edge-shows : (list : List Report) → IsExactly list (Here (map (happening_at u.now) (events_of f e))) → IsExactly list (ShowsAt c (texts_in t) (graphs_in t) (objects_in t) e)
  edge-shows list x = exactly-same (Here (map (happening_at u.now) (events_of f e))) (ShowsAt c (texts_in t) (graphs_in t) (objects_in t) e) list x here-shown shown-here

  -- nothing where there is no such block
  pub nothing-there : slice_get f.table.now.blocks.items e.block ≡ None → IsExactly [] (ShowsAt c (texts_in t) (graphs_in t) (objects_in t) e)
  nothing-there q =
      let none = rules-none c.machine t.depth (texts_in t) p.defined (graph_in f.table.now.graph.now).blocks f.table.now.blocks.items e.block p.blocks q in
      edge-shows [] (nothing-here c fn e.is_root keys (map (happening_at u.now) (events_of f e)) e.tuple
      (subst (λ hs. AreOfEvents c.machine t.depth fn hs []) events-in none))

-- an edge in a function that isn't there shows nothing
pub nothing-shown : (c : Checker) (ts : List Text) (gs : List Graph) (lists : List (List Object)) (e : Edge) → function_at ts e.context.function ≡ None → IsExactly [] (ShowsAt c ts gs lists e)
nothing-shown c ts gs lists e none = (λ r m. absurd (nothing r m), λ r s. absurd (nowhere s.fn (sym none ∙ s.named)))
  where
    nowhere : (f : Function) → None ≡ Some f → ⊥
    nowhere f h = cc
