-- The global states that paths meet at the events of a function. A path's global state depends on no object, so an engine that
-- follows none finds it; and a rule from a global state binds nothing where that state isn't met.
use Rattle.std.specs.Prelude.{◌≡◌, Bool, Some, None, List, [], ◌∷◌, ◌++◌}
use Rattle.path_theory.specs.Model.{Model}
use Rattle.path_theory.specs.Supergraph.{Supergraph}
use Rattle.path_theory.specs.Callers.{Callers}
use Rattle.path_theory.specs.Paths.{Path, after}
use Rattle.path_theory.specs.FlowGraphs.{FlowGraphs, Head, supergraph}
use Rattle.path_theory.specs.Relevant.{EventOf}

-- by a function, an event in it, the kind of frame, and the global state before that event
abbrev pub MetStates : Model → Type 1
MetStates M = M.Fn → M.Event → Bool → M.Global → Type 0

-- it has the global state with which each path comes to each event
pub record CoversMet (M : Model) (K : Supergraph M) (R : MetStates M) : Type 0 where
  pub met : {f : M.Fn} {k : Bool} {p q : K.Place} {b : Callers M K} (P : Path M K f k p b) (e : M.Event)
      → K.Goes f p e q → R f e k (after M K P).global

-- always met: at each event of a trace each global state, in both kinds of frame
abbrev pub at_events : (M : Model) → Supergraph M → MetStates M
at_events M K f e k g = EventOf M K f e

-- IN BLOCKS, from the states that are met at their first places: by a function, the kind of frame, a block and the global state
-- there
abbrev pub BlockStates : (M : Model) → FlowGraphs M → Type 1
BlockStates M G = M.Fn → Bool → G.Block → M.Global → Type 0

-- it has the global state with which each path comes to the first place of each block
pub record CoversBlocks (M : Model) (G : FlowGraphs M) (S : BlockStates M G) : Type 0 where
  pub stands : {f : M.Fn} {k : Bool} {b : G.Block} {c : Callers M (supergraph M G)} (P : Path M (supergraph M G) f k (Head b) c)
      → S f k b (after M (supergraph M G) P).global

-- the global state behind events, by that before them
abbrev pub global_behind : (M : Model) → M.Fn → Bool → List M.Event → M.Global → M.Global
global_behind M f k [] g = g
global_behind M f k (e ∷ es) g = global_behind M f k es (M.next_global e f k g)

-- the event stands in a block with whose first place a state is met, and g is that behind the events before it
pub record MetInBlocks (M : Model) (G : FlowGraphs M) (S : BlockStates M G) (f : M.Fn) (e : M.Event) (k : Bool) (g : M.Global) : Type 0 where
  pub block : G.Block
  pub first : M.Global
  pub stands : S f k block first
  pub before : List M.Event
  pub later : List M.Event
  pub events : G.events f block ≡ before ++ e ∷ later
  pub global : g ≡ global_behind M f k before first

-- an event of a list gives an unknown object a state, in the global state behind the events before it: so whoever looks for what
-- rules bind walks a block's events with the state carried along
pub record BoundAmong (M : Model) (f : M.Fn) (k : Bool) (es : List M.Event) (first : M.Global) (o : M.Obj) : Type 0 where
  pub before : List M.Event
  pub event : M.Event
  pub later : List M.Event
  pub events : es ≡ before ++ event ∷ later
  pub state : M.State
  pub bound : M.choose event f k (global_behind M f k before first) o None ≡ Some state

-- a path that comes to the place with that global state
pub record Comes (M : Model) (K : Supergraph M) (f : M.Fn) (k : Bool) (p : K.Place) (g : M.Global) : Type 0 where
  pub below : Callers M K
  pub path : Path M K f k p below
  pub global : (after M K path).global ≡ g
