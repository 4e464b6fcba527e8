-- What can be known where rules bind in the global states that paths meet is enough to follow.
use Rattle.std.proofs.Common.{◌≡◌, ℕ, Bool, true, List, Contains, Option, None, Some, refl, ap}
use Rattle.std.specs.Prelude.{is_some}
use Rattle.block_flows.specs.FollowedLists.{is_followed}
use Rattle.c_objects.specs.Objects.{Object}
use Rattle.flow_graph.specs.CPaths.Building.{Graph}
use Rattle.known_objects.specs.Followed.{IsBoundHere, AreKnownLists}
use Rattle.known_objects.specs.Theorems.{KnownListsAreEnough}
use Rattle.least_set.specs.Logs.{IsExactly}
use Rattle.masked_paths.proofs.MetBlocks.{blocks_cover_met}
use Rattle.masked_paths.specs.Met.{CoversBlocks, CoversMet, MetStates}
use Rattle.numbered_engine.specs.declared.edges.NumberedEdge.{NumberedEdge}
use Rattle.numbered_engine.specs.declared.program.ProgramRows.{ProgramRows}
use Rattle.path_model.proofs.CheckerModel.Sources.{given}
use Rattle.path_model.specs.CheckerGraphs.Graphs.{AreGraphs, flow_graphs, function_at}
use Rattle.path_model.specs.CheckerGraphs.Members.{Member}
use Rattle.path_model.specs.CheckerModel.Checkers.{model}
use Rattle.path_model.specs.CheckerModel.Choices.{State, Taken, object_behind, taken, target_at}
use Rattle.path_model.specs.CheckerModel.Happenings.{Function, Happening}
use Rattle.path_model.specs.CheckerModel.Reports.{Checker, Fires, report_of}
use Rattle.path_theory.specs.FlowGraphs.{supergraph}
use Rattle.path_theory.specs.Paths.{after}
use Rattle.report_model.specs.declared.report.Report.{Report}
use Rattle.known_objects.proofs.FollowedMask.{followed-by-mask}
use Rattle.suffix_summary.proofs.MetStates.MetEdges.{bound-object}
use Rattle.known_objects.specs.FollowedSets.{AreFollowable}
use Rattle.suffix_summary.specs.InStart.{AreEnoughBound}
use Rattle.suffix_summary.specs.MetStates.{TakesUnknown, met_by, IsBoundWhereMet, stands_in}
use Rattle.type_rules.specs.Options.{if_there}
use Rattle.typed_unit.specs.Texts.{Text}

-- what is chosen for an unknown object, or gives a report about it, is taken
module _ (c : Checker) (f : Function) (k : Bool) (h : Happening) (g : ℕ) (o : Object) where
  chosen-taken : (x : State) → (model c).choose h f k g o None ≡ Some x → TakesUnknown c f k h g o
  chosen-taken x e = by (taken c.machine c.depth h f k g o None) e
    where
      by : (q : Option Taken) → if_there q None (λ t. object_behind (target_at h.event t.rule.dest) None) ≡ Some x → is_some q ≡ true
      by None e = cc
      by (Some t) e = refl

  fired-taken : (r : Report) → Fires c h f k g o None r → TakesUnknown c f k h g o
  fired-taken r e = ap is_some (given (taken c.machine c.depth h f k g o None) (report_of c h f (Some o)) r e).1

-- ---- what rules bind in global states with which paths come to events

module _ (c : Checker) (ts : List Text) (gs : List Graph) (bound : List Member) (R : MetStates (model c))
    (listed : (f : Function) (h : Happening) (k : Bool) (g : ℕ) (o : Object) → R f h k g → TakesUnknown c f k h g o → (n : ℕ) × (function_at ts n ≡ Some f) × Contains bound (n, o)) where
  bound-here : (f : Function) (h : Happening) (k : Bool) (g : ℕ) → R f h k g → IsBoundHere c ts bound f h k g
  bound-here f h k g m = record {
    binds = λ o x e. listed f h k g o m (chosen-taken c f k h g o x e);
    fires = λ o r e. listed f h k g o m (fired-taken c f k h g o r e);
  }

  pub followable-met : AreGraphs ts gs → CoversMet (model c) (supergraph (model c) (flow_graphs c ts gs)) R → KnownListsAreEnough → (sets : List (List Object)) → AreKnownLists c ts bound sets → AreFollowable c ts gs sets
  followable-met are at enough sets known = record {
    count = known.count;
    enough = enough c ts bound sets known gs are (record { met = λ {f = f} {k = k} P h t. bound-here f h k (after (model c) (supergraph (model c) (flow_graphs c ts gs)) P).global (at.met P h t) }) (is_followed ts sets) (followed-by-mask ts sets);
    plain = known.plain;
  }

-- ---- as edges meet them

module _ (c : Checker) (ts : List Text) (gs : List Graph) (p : ProgramRows) (log : List NumberedEdge) (bound : List Member) (exact : IsExactly bound (IsBoundWhereMet c ts gs p log)) where
  -- it is bound in the function of the edge that meets the state
  listed : (f : Function) (h : Happening) (k : Bool) (g : ℕ) (o : Object) → met_by c ts gs p log f h k g → TakesUnknown c f k h g o
      → (n : ℕ) × (function_at ts n ≡ Some f) × Contains bound (n, o)
  listed f h k g o m t =
      let n = m.stands.edge.context.function in
      (n, m.stands.named, exact.1 (n, o) (record { fn = f; named = m.stands.named; event = h; kind = k; global = g; met = m; takes = t }))

  pub enough-where-met : AreGraphs ts gs → CoversBlocks (model c) (flow_graphs c ts gs) (stands_in c ts gs p log) → KnownListsAreEnough → AreEnoughBound c ts gs bound
  enough-where-met are covers enough = record {
    objects = λ n o m. bound-object c ts gs p log (n, o) (exact.0 (n, o) m);
    enough = followable-met c ts gs bound (met_by c ts gs p log) listed are (blocks_cover_met (model c) (flow_graphs c ts gs) (stands_in c ts gs p log) covers) enough;
  }
