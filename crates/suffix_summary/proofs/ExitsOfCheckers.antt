-- The exits of functions under a checker: each stands alone in its block, moves nothing, and in a called frame leaves what is handed back.
use Rattle.std.proofs.Common.{◌≡◌, ℕ, nat_eq, List, Bool, true, false, cond, not, ◌||◌, Option, None, Some, refl, sym, ap, ap₂, ◌∙◌}
use Rattle.c_objects.specs.Facts.{Facts}
use Rattle.c_objects.specs.Objects.{Object, is_object}
use Rattle.flow_graph.specs.CPaths.Building.{Graph}
use Rattle.flow_graph.specs.CPaths.Events.{Event, Evaluated, Declared, Branched, Exited}
use Rattle.flow_graph.specs.CPaths.Exits as marks
use Rattle.flow_graph.proofs.CPaths.EngineGraphs as graphs
use Rattle.hole_matching.specs.Callouts.{is_local}
use Rattle.masked_paths.specs.StrictFlows.Among.{if_followed}
use Rattle.metal_tree.specs.MetalMachines.Machine.{stop}
use Rattle.path_model.specs.CheckerGraphs.Graphs.{AreGraphs, graph_at, flow_graphs}
use Rattle.path_model.specs.CheckerModel.Calls.{out}
use Rattle.path_model.specs.CheckerModel.Checkers.{model, origins, source_at}
use Rattle.path_model.specs.CheckerModel.Choices.{State, first_some, is_exit, is_asked, object_rule, scene, target_at, object_behind, chosen}
use Rattle.path_model.specs.CheckerModel.Happenings.{Function, Happening}
use Rattle.path_model.specs.CheckerModel.Moves.{move_of, source}
use Rattle.path_model.specs.CheckerModel.Reports.{Checker}
use Rattle.path_model.specs.CheckerPrograms.Roots.{followed_into, IsRootFunction}
use Rattle.path_model.specs.CheckerPrograms.Texts.{definition_of, flow_facts, happening, objects_in, site}
use Rattle.path_model.proofs.CheckerGraphs.GraphTraces.{graph-fits}
use Rattle.path_model.proofs.CheckerModel.Laws.{ignores, quiet}
use Rattle.path_model.proofs.CheckerModel.MovedObjects.{actuals-are}
use Rattle.path_model.proofs.CheckerModel.Sources.{tested}
use Rattle.path_theory.specs.FrameEnds.{Exits, ExitsApart}
use Rattle.path_theory.specs.Marks.{EventMark}
use Rattle.type_rules.specs.Options.{if_there}
use Rattle.typed_unit.specs.Texts.{Text}
use Rattle.path_model.proofs.CheckerPrograms.Formals.{site-other}
use Rattle.suffix_summary.proofs.HandedBack.{handing}
use Rattle.suffix_summary.proofs.Returns.{out-other}

-- THE EXITS of a checker
abbrev pub exits : (c : Checker) → Exits (model c)
exits c = record {
  IsExit = λ h. is_exit h.event ≡ true;
  Stays = λ h. is_exit h.event ≡ false;
  same = ignores c;
  quiet = quiet c;
}

-- they are those of flow graphs
marked : (e : Event) → is_exit e ≡ marks.is_exit (EventMark e)
marked (Evaluated s) = refl
marked (Declared x) = refl
marked (Branched n t) = refl
marked (Exited f p) = refl

-- an exit moves nothing
stays : (u : Facts) (depth : ℕ) (e : Event) → is_exit e ≡ true → move_of u depth e ≡ None
stays u depth (Exited f p) h = refl
stays u depth (Evaluated s) h = cc
stays u depth (Declared x) h = cc
stays u depth (Branched n t) h = cc

exit-moves : (depth : ℕ) (h : Happening) (o : Object) → is_exit h.event ≡ true → is_object depth o ≡ true → source_at depth h o ≡ Some o
exit-moves depth h o e i = ap (λ m. source depth m o) (stays h.facts depth h.event e) ∙ ap (λ t. cond t (Some o) None) i

-- the end of a called frame asks no object but those of its variables
module _ (c : Checker) (h : Happening) (f : Function) (g : ℕ) (o : Object) (x : Option State) where
  abbrev behind_if : Bool → Option State
  behind_if asked =
      if_there (cond (nat_eq g stop || not asked) None (first_some (object_rule (scene c.machine c.depth h f) h.event g o x) c.machine.rules)) x
      (λ t. object_behind (target_at h.event t.rule.dest) x)

  is-asked : is_exit h.event ≡ true → is_local o.base ≡ false → is_asked h.event false o ≡ false
  is-asked e l = ap₂ (λ s t. not s || false || t) e l

  unasked : (b : Bool) → nat_eq g stop ≡ b → behind_if false ≡ x
  unasked b e = ap stopped e ∙ stopped-is b
    where
      stopped : Bool → Option State
      stopped b =
          if_there (cond (b || true) None (first_some (object_rule (scene c.machine c.depth h f) h.event g o x) c.machine.rules)) x
          (λ t. object_behind (target_at h.event t.rule.dest) x)

      stopped-is : (b : Bool) → stopped b ≡ x
      stopped-is true = refl
      stopped-is false = refl

  exit-leaves : is_exit h.event ≡ true → is_local o.base ≡ false → chosen c.machine c.depth h f false g o x ≡ x
  exit-leaves e l = ap behind_if (is-asked e l) ∙ unasked (nat_eq g stop) refl

-- what is handed back, and that it is an object
handed-one : (depth : ℕ) (z : Option Object) (c : Object) → if_followed (is_object depth) z ≡ Some c → (is_object depth c ≡ true) × (z ≡ Some c)
handed-one depth None c e = cc
handed-one depth (Some d) c e =
    let t = tested (is_object depth d) (Some d) c e in
    let same : d ≡ c = let w = t.1 in cc in
    (ap (is_object depth) (sym same) ∙ t.0, t.1)

-- THEY STAND APART in the graphs of a program, of what is handed back to objects at the checker's depth
pub exits_apart : (c : Checker) (ts : List Text) (gs : List Graph) → AreGraphs ts gs
    → ExitsApart (model c) (handing (model c) (is_object c.depth) (origins c)) (exits c) (flow_graphs c ts gs)
exits_apart c ts gs A =
    graphs.exits_apart (model c) (flow_facts ts) (definition_of ts) (happening ts) (site c.depth ts) (graph_at ts gs) (IsRootFunction c.machine ts) (λ f s. followed_into c.machine s)
    (handing (model c) (is_object c.depth) (origins c)) (exits c)
    (λ f. let x = graph-fits ts gs A f in x.sound)
    (λ f e i. marked e ∙ i)
    (λ f e i. marked e ∙ i)
    (λ f h s b d j e i o a k. exit-moves c.depth e a i (handed-one c.depth (out c.depth s o) a k).0)
    (λ f h s b d j e i g o a k x.
    exit-leaves c e h g a x i
    (out-other c.depth (site c.depth ts f j.1) o a (site-other c.depth ts f j.1) (actuals-are (objects_in ts f.place.file) c.depth j.1)
    (ap (λ z. out c.depth z o) (sym j.3) ∙ (handed-one c.depth (out c.depth s o) a k).1)))
