-- From the tuples that flow over a block's events to those that stand behind an edge, and back.
use Rattle.std.proofs.Common.{◌≡◌, ◌↔◌, List, [], map, slice_get, None, Some, refl, sym, ap, subst, ◌∙◌}
use Rattle.block_flows.specs.Ends.{IsEnd}
use Rattle.block_flows.specs.FollowedLists.{mask_in}
use Rattle.c_objects.specs.Objects.{Object}
use Rattle.flow_graph.specs.CPaths.BlockGraphs.{events_at}
use Rattle.flow_graph.specs.CPaths.Building.{Graph}
use Rattle.masked_paths.specs.Masked.{masked_events}
use Rattle.masked_paths.proofs.StrictFlows.Among.{crossing_among}
use Rattle.path_model.specs.CheckerGraphs.Graphs.{flow_graphs, function_at}
use Rattle.path_model.specs.CheckerModel.Checkers.{model, origins}
use Rattle.path_model.specs.CheckerModel.Happenings.{Function, Happening}
use Rattle.path_model.specs.CheckerModel.Reports.{Checker}
use Rattle.path_model.specs.CheckerPrograms.Texts.{function_of, happening}
use Rattle.typed_unit.specs.Texts.{Text}
use Rattle.flow_graph.specs.Seen.{graph_in}
use Rattle.least_set.specs.Logs.{IsExactly}
use Rattle.path_edges.specs.declared.edges.Edge.{Edge}
use Rattle.path_edges.specs.Edges.{edge_in, tuple_in}
use Rattle.block_flows.specs.Masks.{model_under, origins_under, objects_under, graphs_under}
use Rattle.path_theory.specs.BlockEdges.{Crosses}
use Rattle.function_tables.specs.declared.engine_tables.frames.Frame.{Frame}
use Rattle.function_tables.specs.declared.engine_tables.tables.Tables.{Tables}
use Rattle.function_tables.specs.EngineTables.Known.{checker_in, texts_in, graphs_in, objects_in}
use Rattle.path_edges.specs.EdgeSteps.Steps.{StandsBehind}
use Rattle.path_edges.proofs.EdgeSteps.Lists.{exactly-same, exactly-none}
use Rattle.function_tables.proofs.EngineTables.Places.{IsPlace, named}
use Rattle.state_tuples.specs.declared.tuple.Tuple.{Tuple}
use Rattle.block_flows.specs.TupleFlows.Facts.{fact_in, is_in, listed, origins_in}

one-function : (f g : Function) → Some f ≡ Some g → f ≡ g
one-function f g e = cc

module _ (t : Tables) (e : Edge) (f : Frame) (p : IsPlace t e.context.function f) where
  abbrev c : Checker
  c = checker_in t

  abbrev ts : List Text
  ts = texts_in t

  abbrev lists : List (List Object)
  lists = objects_in t

  abbrev fn : Function
  fn = function_of p.defined

  abbrev Behind : Tuple → Type 0
  Behind = StandsBehind c ts (graphs_in t) lists e

  -- the events of the block, by the graph of its function
  events-are : map (happening ts fn) (events_at (slice_get (graph_in f.table.now.graph.now).blocks e.block)) ≡ (flow_graphs c ts (graphs_in t)).events fn e.block
  events-are = ap (λ (g : Graph). map (happening ts fn) (events_at (slice_get g.blocks e.block))) (sym p.graph)

  abbrev Ended : List Happening → Tuple → Type 0
  Ended hs = IsEnd c hs fn e.is_root f.objects.now.keys e.tuple

  abbrev here : List Happening
  here = map (happening ts fn) (events_at (slice_get (graph_in f.table.now.graph.now).blocks e.block))

  -- what crosses where these objects alone are followed is what crosses among those of the function
  abbrev Crossing : Function → List Happening → Tuple → Type 0
  Crossing z hs u = Crosses (model_under c ts lists) (origins_under c ts lists) (objects_under c ts lists) z e.is_root (masked_events (model c) z hs)
      e.tuple.global (fact_in e.tuple) u.global (fact_in u)

  crossing-is : (hs : List Happening) (u : Tuple) → Crossing fn hs u ↔ Ended hs u
  crossing-is hs u =
      crossing_among (model c) (origins c) (mask_in c ts lists) refl fn fn (is_in f.objects.now.keys) (is_in f.objects.now.keys) p.follows p.follows
      e.is_root hs e.tuple.global u.global (fact_in e.tuple) (fact_in u)

  ended-behind : (u : Tuple) → Ended here u → Behind u
  ended-behind u h =
      let over = (crossing-is ((flow_graphs c ts (graphs_in t)).events fn e.block) u).1 (subst (λ hs. Ended hs u) events-are h) in
      record { fn = fn; behind = record { named = named t e.context.function p.defined p.is; crosses = over } }

  behind-ended : (u : Tuple) → Behind u → Ended here u
  behind-ended u s =
      let same : s.fn ≡ fn = one-function s.fn fn (sym s.behind.named ∙ named t e.context.function p.defined p.is) in
      let crosses = subst (λ (z : Function). Crossing z ((flow_graphs c ts (graphs_in t)).events z e.block) u) same s.behind.crosses in
      subst (λ hs. Ended hs u) (sym events-are) ((crossing-is ((flow_graphs c ts (graphs_in t)).events fn e.block) u).0 crosses)

  pub crossed : (list : List Tuple) → IsExactly list (Ended here) → IsExactly list (StandsBehind c (texts_in t) (graphs_in t) (objects_in t) e)
  crossed list x = exactly-same (Ended here) Behind list x ended-behind behind-ended

-- nothing stands behind an edge in a function that isn't there
pub nothing-behind : (c : Checker) (ts : List Text) (gs : List Graph) (lists : List (List Object)) (e : Edge) → function_at ts e.context.function ≡ None
    → IsExactly [] (StandsBehind c ts gs lists e)
nothing-behind c ts gs lists e none = exactly-none (StandsBehind c ts gs lists e) (λ u s. nowhere s.fn (sym none ∙ s.behind.named))
  where
    nowhere : (f : Function) → None ≡ Some f → ⊥
    nowhere f h = cc
