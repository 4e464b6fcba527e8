-- The bodies of functions for the theory of paths: by steps, and by flow graphs.
-- A model of a checker names functions, events and sites in its own way; the module is over how it does.
use Rattle.std.specs.Prelude.{◌≡◌, ℕ, Bool, true, false, List, [], ◌∷◌}
use Rattle.c_tree.specs.Node.{Node}
use Rattle.path_theory.specs.Model.{Model}
use Rattle.path_theory.specs.Trails.{Trail, More}
use Rattle.path_theory.specs.Marks.{Mark, EventMark, CallMark, Bodies}
use Rattle.flow_graph.specs.CPaths.Membership.{Among}
use Rattle.flow_graph.specs.CPaths.Events.{Event, Exited, Item}
use Rattle.flow_graph.specs.CPaths.Exits.{is_exit}
use Rattle.flow_graph.specs.CPaths.Facts.{Facts}
use Rattle.flow_graph.specs.CPaths.TreeFlow.{flow_of}
use Rattle.flow_graph.specs.CPaths.Tasks.{Task, Run, Close}
use Rattle.flow_graph.specs.CPaths.Steps.{Step}
use Rattle.flow_graph.specs.CPaths.Traces.{Definition}
use Rattle.flow_graph.specs.CPaths.Graphs.{Block, Ending, ToAny, Calls, Stops}
use Rattle.flow_graph.specs.CPaths.Fragments.{Has}
use Rattle.flow_graph.specs.CPaths.Building.{Graph}

-- within a step: whether the last item was an exit, what the step still gives, and what is to be done behind it
pub record Pending : Type 0 where
  pub last : Bool
  pub rest : List Item
  pub behind : List Task

-- at the head of a block, or within one before these events and this end
pub data Spot : Type 0 where
  Head : ℕ → Spot
  Before : List Event → Ending → Spot

abbrev pub SpotSkips : List Block → Spot → Spot → Type 0
SpotSkips g (Head b) (Before es end) = Has g b es end
SpotSkips g (Before [] (ToAny bs)) (Head c) = Among c bs
SpotSkips g _ _ = ⊥

abbrev pub SpotGoes : Spot → Event → Spot → Type 0
SpotGoes (Before (i ∷ es) end) e (Before fs last) = (fs ≡ es) × (last ≡ end) × (e ≡ i)
SpotGoes _ e _ = ⊥

abbrev pub SpotMarks : Spot → Node → Spot → Type 0
SpotMarks (Before [] (Calls n b)) s (Head c) = (c ≡ b) × (s ≡ n)
SpotMarks _ s _ = ⊥

abbrev pub SpotEnds : Spot → Type 0
SpotEnds (Before [] Stops) = Unit {0}
SpotEnds _ = ⊥

-- how a model names the events and the sites of each function, and the function that it means
module _ (M : Model) (facts : M.Fn → Facts) (definition : M.Fn → Definition) (event : M.Fn → Event → M.Event) (site : M.Fn → Node → M.Site) where
  -- a step is taken where the last one has given all that it gives; the frame may end behind an exit
  abbrev pub step_bodies : Bodies M
  step_bodies = record {
    Place = Pending;
    entry = λ f. record { last = false; rest = []; behind = Run (flow_of (facts f) (definition f).place (definition f).body) ∷ Close (Exited (definition f).place (definition f).close) ∷ [] };
    Skips = λ f p q. (p.rest ≡ []) × (q.last ≡ p.last)
        × Step (flow_of (facts f) (definition f).place (definition f).body) (Close (Exited (definition f).place (definition f).close) ∷ []) p.behind q.rest q.behind;
    Goes = λ f p e q. (i : Event) × (p.rest ≡ EventMark i ∷ q.rest) × (q.behind ≡ p.behind) × (q.last ≡ is_exit (EventMark i)) × (e ≡ event f i);
    Marks = λ f p s q. (n : Node) × (p.rest ≡ CallMark n ∷ q.rest) × (q.behind ≡ p.behind) × (q.last ≡ false) × (s ≡ site f n);
    Ends = λ f p. p.last ≡ true;
  }

  -- the same of a graph for each function; the frame ends behind a block that stops
  abbrev pub graph_bodies : (M.Fn → Graph) → Bodies M
  graph_bodies graph = record {
    Place = Spot;
    entry = λ f. Head (graph f).entry;
    Skips = λ f p q. SpotSkips (graph f).blocks p q;
    Goes = λ f p e q. (i : Event) × SpotGoes p i q × (e ≡ event f i);
    Marks = λ f p s q. (n : Node) × SpotMarks p n q × (s ≡ site f n);
    Ends = λ f p. SpotEnds p;
  }

  -- an item as the model names it
  abbrev pub mark_of : M.Fn → Item → Mark M.Event M.Site
  mark_of f (EventMark i) = EventMark (event f i)
  mark_of f (CallMark n) = CallMark (site f n)

  -- a list of items behind what has happened so far
  abbrev pub marked_then : M.Fn → Trail (Mark M.Event M.Site) → List Item → Trail (Mark M.Event M.Site)
  marked_then f t [] = t
  marked_then f t (i ∷ w) = marked_then f (More t (mark_of f i)) w

-- whether the last item is an exit, if the one before the list was so
abbrev pub ends_in_exit : Bool → List Item → Bool
ends_in_exit b [] = b
ends_in_exit b (i ∷ w) = ends_in_exit (is_exit i) w
