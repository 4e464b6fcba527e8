-- The flow graphs of functions as an engine takes them, for a checker that follows some of their calls.
-- A call that isn't followed leads on as a jump does.
use Rattle.std.specs.Prelude.{◌≡◌, ℕ, List, [], map, Option, None, Some, slice_get}
use Rattle.c_tree.specs.Node.{Node}
use Rattle.path_theory.specs.Model.{Model}
use Rattle.path_theory.specs.FlowGraphs.{FlowGraphs}
use Rattle.flow_graph.specs.CPaths.Membership.{Among}
use Rattle.flow_graph.specs.CPaths.Events.{Event}
use Rattle.flow_graph.specs.CPaths.Graphs.{Block, Ending, ToAny, Calls, Stops}
use Rattle.flow_graph.specs.CPaths.Fragments.{Has}
use Rattle.flow_graph.specs.CPaths.Building.{Graph}

-- none where the block isn't there
abbrev pub events_at : Option Block → List Event
events_at None = []
events_at (Some s) = s.events

-- a block that ends so goes on in this one, where the calls at these sites aren't followed
abbrev pub LeadsTo : (Node → Type 0) → Ending → ℕ → Type 0
LeadsTo IsPassed (ToAny bs) c = Among c bs
LeadsTo IsPassed (Calls n b) c = IsPassed n × (c ≡ b)
LeadsTo IsPassed Stops c = ⊥

-- how a model names events and sites, the graph of each function, the roots, and the callee of each call that is followed
module _ (M : Model) (event : M.Fn → Event → M.Event) (site : M.Fn → Node → M.Site) (graph : M.Fn → Graph) (IsRoot : M.Fn → Type 0) (followed : M.Fn → M.Site → Option M.Fn) where
  abbrev pub block_graphs : FlowGraphs M
  block_graphs = record {
    IsRoot = IsRoot;
    Block = ℕ;
    first = λ f. (graph f).entry;
    events = λ f b. map (event f) (events_at (slice_get (graph f).blocks b));
    Next = λ f b c. (es : List Event) × (end : Ending) × Has (graph f).blocks b es end × LeadsTo (λ n. followed f (site f n) ≡ None) end c;
    Call = λ f b s h c. (es : List Event) × (n : Node) × Has (graph f).blocks b es (Calls n c) × (s ≡ site f n) × (followed f s ≡ Some h);
    Ends = λ f b. (es : List Event) × Has (graph f).blocks b es Stops;
  }
