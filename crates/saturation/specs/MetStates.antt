-- WHAT RULES BIND WHERE THEIR GLOBAL STATES ARE MET: of the objects that an event could give a state or a report, those that take a rule in a
-- global state with which some path comes to the event.
use Rattle.std.specs.Prelude.{◌≡◌, ◌⊎◌, ℕ, Bool, true, List, [], ◌∷◌, None, Some, is_some}
use Rattle.c_objects.specs.Objects.{Object}
use Rattle.flow_graph.specs.CPaths.Building.{Graph}
use Rattle.masked_paths.specs.Met.{MetStates, MetInBlocks}
use Rattle.path_edges.specs.MetStates.{stands_in}
use Rattle.path_edges.specs.declared.edges.Edge.{Edge}
use Rattle.path_model.specs.CheckerGraphs.Graphs.{flow_graphs, function_at}
use Rattle.path_model.specs.CheckerGraphs.Members.{Member, member}
use Rattle.path_model.specs.CheckerModel.Checkers.{model}
use Rattle.path_model.specs.CheckerModel.Choices.{next_global, taken}
use Rattle.path_model.specs.CheckerModel.Happenings.{Function, Happening}
use Rattle.path_model.specs.CheckerModel.Reports.{Checker}
use Rattle.typed_unit.specs.Texts.{Text}

module _ (c : Checker) where
  -- THE OBJECT TAKES A RULE while it is unknown, at an event with this global state
  abbrev pub TakesUnknown : Function → Bool → Happening → ℕ → Object → Type 0
  TakesUnknown f k h g o = is_some (taken c.machine c.depth h f k g o None) ≡ true

  -- at one of these events, which begin in this global state
  abbrev pub TakesAmong : Function → Bool → List Happening → ℕ → Object → Type 0
  TakesAmong f k [] g o = ⊥
  TakesAmong f k (h ∷ hs) g o = TakesUnknown f k h g o ⊎ TakesAmong f k hs (next_global c.machine c.depth h f k g) o

  module _ (ts : List Text) (gs : List Graph) (log : List Edge) where
    -- the global states that the edges of a list meet at events
    abbrev pub met_by : MetStates (model c)
    met_by = MetInBlocks (model c) (flow_graphs c ts gs) (stands_in c ts gs log)

    -- IT IS BOUND WHERE A STATE IS MET: it takes a rule in such a state, in the function with this number
    pub record IsBoundWhereMet (y : Member) : Type 0 where
      pub fn : Function
      pub named : function_at ts y.0 ≡ Some fn
      pub event : Happening
      pub kind : Bool
      pub global : ℕ
      pub met : met_by fn event kind global
      pub takes : TakesUnknown fn kind event global y.1

  -- ---- as edges give them

  -- at an event of the edge's block, in the function that it names
  abbrev pub GivesOne : Function → Happening → ℕ → Edge → Object → Member → Type 0
  GivesOne f h g e o y = (member e.context.function o ≡ y) × TakesUnknown f e.is_root h g o

  abbrev pub GivesAt : Function → Happening → ℕ → Edge → Member → Type 0
  GivesAt f h g e y = (e.context.function ≡ y.0) × TakesUnknown f e.is_root h g y.1

  abbrev pub GivesAmong : Function → List Happening → ℕ → Edge → Member → Type 0
  GivesAmong f hs g e y = (e.context.function ≡ y.0) × TakesAmong f e.is_root hs g y.1

  -- at one of the events of its block
  pub record GivesBound (ts : List Text) (gs : List Graph) (e : Edge) (y : Member) : Type 0 where
    pub fn : Function
    pub named : function_at ts e.context.function ≡ Some fn
    pub gives : GivesAmong fn ((flow_graphs c ts gs).events fn e.block) e.tuple.global e y
