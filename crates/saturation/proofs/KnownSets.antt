-- What can be known where rules bind in the global states that edges without followed objects meet, is enough to follow.
use Rattle.std.proofs.Common.{◌≡◌, ℕ, Bool, true, List, map, Contains, Option, None, Some, refl, ap, subst, ◌∙◌, sym, length}
use Rattle.std.specs.Prelude.{is_some}
use Rattle.std.proofs.Math.Logic.{∥∥₁_map}
use Rattle.block_flows.specs.FollowedLists.{is_followed}
use Rattle.c_objects.specs.Objects.{Object, IsObject}
use Rattle.flow_graph.specs.CPaths.Building.{Graph}
use Rattle.known_objects.specs.Followed.{IsBoundHere, AreKnownLists}
use Rattle.known_objects.specs.Theorems.{KnownListsAreEnough}
use Rattle.least_set.specs.Logs.{IsExactly}
use Rattle.masked_paths.proofs.MetBlocks.{blocks_cover_met}
use Rattle.path_edges.specs.MetStates.{stands_in}
use Rattle.path_edges.specs.Relations.{IsClosedLog}
use Rattle.path_edges.specs.Theorems.{EmptyEdgesMeet}
use Rattle.path_edges.specs.declared.edges.Edge.{Edge}
use Rattle.path_model.proofs.CheckerModel.Sources.{given}
use Rattle.path_model.specs.CheckerGraphs.Graphs.{AreGraphs, flow_graphs, function_at}
use Rattle.path_model.specs.CheckerModel.Checkers.{model}
use Rattle.path_model.specs.CheckerModel.Choices.{State, Taken, object_behind, taken, target_at}
use Rattle.path_model.specs.CheckerModel.Happenings.{Function, Happening}
use Rattle.path_model.specs.CheckerModel.Reports.{Checker, Fires, report_of}
use Rattle.path_theory.specs.FlowGraphs.{supergraph}
use Rattle.path_theory.specs.Paths.{after}
use Rattle.report_model.specs.declared.report.Report.{Report}
use Rattle.known_objects.proofs.FollowedMask.{followed-by-mask}
use Rattle.saturation.proofs.MetStates.MetEdges.{bound-object}
use Rattle.known_objects.specs.FollowedSets.{AreFollowable, HaveNone}
use Rattle.saturation.specs.MetStates.{TakesUnknown, met_by, IsBoundWhereMet}
use Rattle.path_model.specs.CheckerGraphs.Members.{Member}
use Rattle.type_rules.specs.Options.{if_there}
use Rattle.typed_unit.specs.Texts.{Text}

-- what is chosen for an unknown object, or gives a report about it, is taken
module _ (c : Checker) (f : Function) (k : Bool) (h : Happening) (g : ℕ) (o : Object) where
  chosen-taken : (x : State) → (model c).choose h f k g o None ≡ Some x → TakesUnknown c f k h g o
  chosen-taken x e = by (taken c.machine c.depth h f k g o None) e
    where
      by : (q : Option Taken) → if_there q None (λ t. object_behind (target_at h.event t.rule.dest) None) ≡ Some x → is_some q ≡ true
      by None e = cc
      by (Some t) e = refl

  fired-taken : (r : Report) → Fires c h f k g o None r → TakesUnknown c f k h g o
  fired-taken r e = ap is_some (given (taken c.machine c.depth h f k g o None) (report_of c h f (Some o)) r e).1

module _ (c : Checker) (ts : List Text) (gs : List Graph) (log : List Edge) (bound : List Member) (exact : IsExactly bound (IsBoundWhereMet c ts gs log)) where
  -- it is bound in the function of the edge that meets the state
  listed : (f : Function) (h : Happening) (k : Bool) (g : ℕ) (o : Object) → met_by c ts gs log f h k g → TakesUnknown c f k h g o
      → (n : ℕ) × (function_at ts n ≡ Some f) × Contains bound (n, o)
  listed f h k g o m t =
      let n = m.stands.edge.context.function in
      (n, m.stands.named, exact.1 (n, o) (record { fn = f; named = m.stands.named; event = h; kind = k; global = g; met = m; takes = t }))

  bound-here : (f : Function) (h : Happening) (k : Bool) (g : ℕ) → met_by c ts gs log f h k g → IsBoundHere c ts bound f h k g
  bound-here f h k g m = record {
    binds = λ o x e. listed f h k g o m (chosen-taken c f k h g o x e);
    fires = λ o r e. listed f h k g o m (fired-taken c f k h g o r e);
  }

  pub bound-objects : (n : ℕ) (o : Object) → Contains bound (n, o) → IsObject c.depth o
  bound-objects n o m = bound-object c ts gs log (n, o) (exact.0 (n, o) m)

  pub followable : AreGraphs ts gs → (none : List (List Object)) → HaveNone none → IsClosedLog c ts gs none log → EmptyEdgesMeet → KnownListsAreEnough
      → (sets : List (List Object)) → AreKnownLists c ts bound sets → ∥ AreFollowable c ts gs sets ∥₁
  followable are none empty closed meet enough sets known =
      ∥∥₁_map (meet c ts gs are none empty log closed) (λ covers.
      let at = blocks_cover_met (model c) (flow_graphs c ts gs) (stands_in c ts gs log) covers in record {
        count = known.count;
        enough = enough c ts bound sets known gs are (record { met = λ {f = f} {k = k} P h t. bound-here f h k (after (model c) (supergraph (model c) (flow_graphs c ts gs)) P).global (at.met P h t) }) (is_followed ts sets) (followed-by-mask ts sets);
        plain = known.plain;
      })
