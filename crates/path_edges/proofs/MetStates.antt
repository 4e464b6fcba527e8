-- A list of edges that has what follows stands at the first places of blocks with the global states with which paths come there, whichever
-- objects are followed: a path's global state depends on none.
use Rattle.std.proofs.Common.{◌≡◌, Bool, ℕ, List, Contains, Some, sym, ap, subst}
use Rattle.c_objects.specs.Objects.{Object}
use Rattle.block_flows.specs.FollowedLists.{mask_in}
use Rattle.flow_graph.specs.CPaths.Building.{Graph}
use Rattle.least_set.specs.TwoPremises.{FollowsBase, FollowsOne, FollowsTwo}
use Rattle.masked_paths.proofs.MaskedTabulation.MetEdges.{edges_stand}
use Rattle.masked_paths.specs.MaskedTabulation.Stands as under
use Rattle.masked_paths.specs.Met.{CoversBlocks}
use Rattle.path_edges.proofs.Numbers.{have-numbers}
use Rattle.path_edges.proofs.Values.{complete}
use Rattle.path_edges.specs.Edges.{edge_in}
use Rattle.block_flows.specs.Masks.{model_under, origins_under, objects_under, graphs_under}
use Rattle.path_edges.specs.MetStates.{StandsAt, stands_in}
use Rattle.path_edges.specs.Relations.{IsClosedLog}
use Rattle.path_edges.specs.declared.edges.Edge.{Edge}
use Rattle.path_model.specs.CheckerGraphs.Graphs.{flow_graphs, function_at}
use Rattle.path_model.specs.CheckerModel.Checkers.{model, origins}
use Rattle.path_model.specs.CheckerModel.Happenings.{Function}
use Rattle.path_model.specs.CheckerModel.Reports.{Checker}
use Rattle.path_theory.specs.TabulationRules.LeastSets.{IsClosedUnder}
use Rattle.path_theory.specs.TabulationRules.OwnValues.{StandsFor}
use Rattle.path_theory.specs.TabulationRules.Rules.{Base, ContextIn, EdgeIn, Ends, Goes, WaiterIn, Waits, Wakes}
use Rattle.typed_unit.specs.Texts.{Text}

module _ (c : Checker) (ts : List Text) (gs : List Graph) (lists : List (List Object)) (log : List Edge) (closed : IsClosedLog c ts gs lists log) where
  abbrev EdgeUnder : Type 0
  EdgeUnder = EdgeIn (model_under c ts lists) (origins_under c ts lists) (objects_under c ts lists) (graphs_under c ts gs lists) (function_at ts)

  abbrev ContextUnder : Type 0
  ContextUnder = ContextIn (model_under c ts lists) (origins_under c ts lists) (objects_under c ts lists) (graphs_under c ts gs lists) (function_at ts)

  abbrev WaiterUnder : Type 0
  WaiterUnder = WaiterIn (model_under c ts lists) (origins_under c ts lists) (objects_under c ts lists) (graphs_under c ts gs lists) (function_at ts)

  -- some edge of the list stands for it
  abbrev Listed : EdgeUnder → Type 0
  Listed = StandsFor edge_in (Contains log)

  listed-base : (e : EdgeUnder) → Base (model_under c ts lists) (origins_under c ts lists) (objects_under c ts lists) (graphs_under c ts gs lists) (function_at ts) e → Listed e
  listed-base e h =
      let s = (complete c ts gs lists).base e h in
      record { value = s.value; is = s.is; holds = closed s.value (FollowsBase ∣ s.holds ∣₁) }

  listed-goes : (a e : EdgeUnder) → Listed a → Goes (model_under c ts lists) (origins_under c ts lists) (objects_under c ts lists) (graphs_under c ts gs lists) (function_at ts) a e → Listed e
  listed-goes a e x h =
      let s = (complete c ts gs lists).goes x.value e (subst (λ z. Goes (model_under c ts lists) (origins_under c ts lists) (objects_under c ts lists) (graphs_under c ts gs lists) (function_at ts) z e) (sym x.is) h) in
      record { value = s.value; is = s.is; holds = closed s.value (FollowsOne x.value x.holds ∣ s.holds ∣₁) }

  listed-wakes : (a b e : EdgeUnder) (k : ContextUnder) (w : WaiterUnder) → Listed a
      → Waits (model_under c ts lists) (origins_under c ts lists) (objects_under c ts lists) (graphs_under c ts gs lists) (function_at ts) a k w → Listed b
      → Ends (model_under c ts lists) (origins_under c ts lists) (objects_under c ts lists) (graphs_under c ts gs lists) (function_at ts) b k
      → Wakes (model_under c ts lists) (origins_under c ts lists) (objects_under c ts lists) (graphs_under c ts gs lists) (function_at ts) w b e → Listed e
  listed-wakes a b e k w x h y t v =
      let u = (complete c ts gs lists).waits x.value k w (subst (λ z. Waits (model_under c ts lists) (origins_under c ts lists) (objects_under c ts lists) (graphs_under c ts gs lists) (function_at ts) z k w) (sym x.is) h) in
      let stops = (complete c ts gs lists).ends y.value u.on
      (subst (λ z. Ends (model_under c ts lists) (origins_under c ts lists) (objects_under c ts lists) (graphs_under c ts gs lists) (function_at ts) (edge_in y.value) z) (sym u.is_on)
      (subst (λ z. Ends (model_under c ts lists) (origins_under c ts lists) (objects_under c ts lists) (graphs_under c ts gs lists) (function_at ts) z k) (sym y.is) t)) in
      let s = (complete c ts gs lists).wakes u.who y.value e
      (subst (λ z. Wakes (model_under c ts lists) (origins_under c ts lists) (objects_under c ts lists) (graphs_under c ts gs lists) (function_at ts) z (edge_in y.value) e) (sym u.is_who)
      (subst (λ z. Wakes (model_under c ts lists) (origins_under c ts lists) (objects_under c ts lists) (graphs_under c ts gs lists) (function_at ts) w z e) (sym y.is) v)) in
      record { value = s.value; is = s.is; holds = closed s.value (FollowsTwo x.value y.value u.on u.who x.holds ∣ u.holds ∣₁ y.holds ∣ stops ∣₁ ∣ s.holds ∣₁) }

  listed-closed : IsClosedUnder (model_under c ts lists) (origins_under c ts lists) (objects_under c ts lists) (graphs_under c ts gs lists) (function_at ts) Listed
  listed-closed = record { base = listed-base; goes = listed-goes; wakes = listed-wakes }

  -- an edge of the list where one for which it stands does
  stands-there : (f : Function) (k : Bool) (b g : ℕ)
      → under.StandsAt (model_under c ts lists) (origins_under c ts lists) (objects_under c ts lists) (graphs_under c ts gs lists) (function_at ts) Listed f k b g
      → StandsAt ts log f k b g
  stands-there f k b g w =
      let x = w.edge.among in
      record {
        edge = x.value;
        among = x.holds;
        named = subst (λ n. function_at ts n ≡ Some f) (sym (ap (λ e. e.context.function) x.is)) w.edge.named;
        kind = ap (λ e. e.is_root) x.is;
        block = ap (λ e. e.block) x.is;
        global = ap (λ e. e.tuple.global) x.is;
      }

  pub edges-meet : CoversBlocks (model c) (flow_graphs c ts gs) (stands_in c ts gs log)
  edges-meet =
      let all = edges_stand (model c) (origins c) (mask_in c ts lists) (flow_graphs c ts gs) (function_at ts) (have-numbers c ts gs) Listed listed-closed in
      record { stands = λ {f = f} {k = k} {b = b} P. stands-there f k b _ (all.stands P) }
