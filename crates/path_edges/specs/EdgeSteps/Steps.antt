-- WHAT FOLLOWS FROM AN EDGE, step by step: values of an engine, and the rules as far as one step goes.
use Rattle.std.specs.Prelude.{◌≡◌, ℕ, Bool, true, false, List, ◌∷◌, map, Option, None, Some}
use Rattle.std.proofs.Common.{refl}
use Rattle.c_objects.specs.Objects.{Object}
use Rattle.flow_graph.specs.CPaths.BlockGraphs.{LeadsTo}
use Rattle.flow_graph.specs.CPaths.Building.{Graph}
use Rattle.flow_graph.specs.CPaths.Events.{Event}
use Rattle.flow_graph.specs.CPaths.Fragments.{Has}
use Rattle.flow_graph.specs.CPaths.Graphs.{Block, Ending, Calls, Stops}
use Rattle.c_tree.specs.Node.{Node}
use Rattle.path_model.specs.CheckerGraphs.Graphs.{function_at, graph_at}
use Rattle.path_model.specs.CheckerModel.Checkers.{model}
use Rattle.path_model.specs.CheckerModel.Choices.{State}
use Rattle.path_model.specs.CheckerModel.Happenings.{Function, Site}
use Rattle.path_model.specs.CheckerModel.Reports.{Checker}
use Rattle.path_model.specs.CheckerPrograms.Roots.{followed_into}
use Rattle.path_model.specs.CheckerPrograms.Texts.{site}
use Rattle.typed_unit.specs.Texts.{Text}
use Rattle.least_set.specs.declared.two_premises.Wait.{Wait}
use Rattle.path_edges.specs.declared.edges.Context.{Context}
use Rattle.path_edges.specs.declared.edges.Edge.{Edge}
use Rattle.path_edges.specs.declared.edges.Waiter.{Waiter}
use Rattle.path_edges.specs.Edges.{edge_in, tuple_in}
use Rattle.block_flows.specs.Masks.{model_under, origins_under, objects_under, graphs_under}
use Rattle.path_theory.specs.Facts.{FactOf}
use Rattle.path_theory.specs.Flows.{Starts, CallFlow}
use Rattle.state_tuples.specs.declared.tuple.Tuple.{Tuple}
use Rattle.path_theory.specs.TabulationRules.Rules.{Behind}
use Rattle.block_flows.specs.TupleFlows.Facts.{fact_in}

-- another edge of the same frame
abbrev pub edge_at : Edge → ℕ → Tuple → Edge
edge_at e b t = record { context = e.context; is_root = e.is_root; block = b; tuple = t }

-- the first edge of a frame, of a root's own or of a called one
abbrev pub frame_edge : Bool → ℕ → ℕ → Tuple → Edge
frame_edge is_root f b t = record { context = record { function = f; entry = t }; is_root = is_root; block = b; tuple = t }

abbrev pub first_edge : ℕ → ℕ → Tuple → Edge
first_edge f b t = frame_edge true f b t

-- who waits at the context of a callee that is entered with a tuple, and goes on behind the call
abbrev pub wait_for : Edge → ℕ → ℕ → Tuple → Wait Context Waiter
wait_for e h behind t = record {
  on = record { function = h; entry = t };
  waiter = record { context = e.context; is_root = e.is_root; block = e.block; behind = behind; saved = None };
}

-- where who waits goes on with a tuple
abbrev pub woken_edge : Waiter → Tuple → Edge
woken_edge w t = record { context = w.context; is_root = w.is_root; block = w.behind; tuple = t }

-- an object that was saved over a call with its state, in the global state of a tuple at the callee's end
abbrev pub put_back : Tuple → Object → Option State → Tuple
put_back t o x = record { global = t.global; object = Some o; state = x; bare = refl }

-- the tuples with which roots begin
abbrev pub start_tuple : Tuple
start_tuple = record { global = 0; object = None; state = None; bare = refl }

abbrev pub unknown_at : Object → Tuple
unknown_at o = record { global = 0; object = Some o; state = None; bare = refl }

abbrev pub first_edges : ℕ → ℕ → List Object → List Edge
first_edges f b os = first_edge f b start_tuple ∷ map (λ o. first_edge f b (unknown_at o)) os

-- the function may end behind the block
abbrev pub IsLast : List Block → ℕ → Type 0
IsLast bs b = (es : List Event) × Has bs b es Stops

module _ (c : Checker) (ts : List Text) (gs : List Graph) (lists : List (List Object)) where
  -- A TUPLE AT THE END of an edge's block
  pub record StandsBehind (e : Edge) (u : Tuple) : Type 0 where
    pub fn : Function
    pub behind : Behind (model_under c ts lists) (origins_under c ts lists) (objects_under c ts lists) (graphs_under c ts gs lists) (function_at ts) (edge_in e) (tuple_in u) fn

  -- AN EDGE with which the function of this number begins as a root's own frame
  pub record BeginsIn (n : ℕ) (e : Edge) : Type 0 where
    pub fn : Function
    pub named : function_at ts n ≡ Some fn
    pub number : e.context.function ≡ n
    pub start : e.context.entry.global ≡ (model c).start
    pub starts : Starts (model_under c ts lists) (origins_under c ts lists) (objects_under c ts lists) fn (fact_in e.context.entry)
    pub kind : e.is_root ≡ true
    pub first : e.block ≡ (graph_at ts gs fn).entry
    pub same : e.tuple ≡ e.context.entry

  -- the facts at the entry of a callee, of those before a call in a function
  abbrev pub EntersBy : Function → Site → Function → FactOf Object State → FactOf Object State → Type 0
  EntersBy fn s h = CallFlow (model_under c ts lists) (origins_under c ts lists) (objects_under c ts lists) (record { caller = fn; site = s; callee = h }) h

  -- AN EDGE that is next, where this function's block ends so: on in another block, or at the first one of a callee that is entered
  pub data IsNext (fn : Function) (end : Ending) (a d : Edge) : Type 0 where
    Onward : (b : ℕ) (u : Tuple) → StandsBehind a u → LeadsTo (λ n. followed_into c.machine (site c.depth ts fn n) ≡ None) end b → edge_at a b u ≡ d
        → IsNext fn end a d
    Inward : (n : Node) (next k : ℕ) (h : Function) (u v : Tuple) → StandsBehind a u → end ≡ Calls n next
        → followed_into c.machine (site c.depth ts fn n) ≡ Some h → function_at ts k ≡ Some h → v.global ≡ u.global
        → EntersBy fn (site c.depth ts fn n) h (fact_in u) (fact_in v)
        → frame_edge false k (graph_at ts gs h).entry v ≡ d → IsNext fn end a d
