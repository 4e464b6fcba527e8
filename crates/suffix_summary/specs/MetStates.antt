-- WHAT RULES BIND WHERE THEIR GLOBAL STATES ARE MET: of the objects that an event could give a state or a report, those that take a rule in a
-- global state with which some path comes to the event.
use Rattle.std.specs.Prelude.{◌≡◌, ◌⊎◌, ℕ, Bool, true, false, List, [], ◌∷◌, Contains, None, Some, is_some}
use Rattle.std.specs.Option.{option_map_or}
use Rattle.c_objects.specs.Objects.{Object}
use Rattle.flow_graph.specs.CPaths.Building.{Graph}
use Rattle.masked_paths.specs.Met.{BlockStates, MetStates, MetInBlocks}
use Rattle.numbered_engine.specs.Program as rows
use Rattle.numbered_engine.specs.declared.edges.NumberedEdge.{NumberedEdge}
use Rattle.numbered_engine.specs.declared.program.FunctionRows.{FunctionRows}
use Rattle.numbered_engine.specs.declared.program.ProgramRows.{ProgramRows}
use Rattle.numbered_program.specs.Views.{block_at}
use Rattle.path_model.specs.CheckerGraphs.Graphs.{flow_graphs, function_at}
use Rattle.path_model.specs.CheckerGraphs.Members.{Member, member}
use Rattle.path_model.specs.CheckerModel.Checkers.{model}
use Rattle.path_model.specs.CheckerModel.Choices.{next_global, taken}
use Rattle.path_model.specs.CheckerModel.Happenings.{Function, Happening}
use Rattle.path_model.specs.CheckerModel.Reports.{Checker}
use Rattle.typed_unit.specs.Texts.{Text}

-- ---- for which frames an edge stands

-- its context is followed in a root's own frame
abbrev pub is_own_in : ProgramRows → NumberedEdge → Bool
is_own_in p e = option_map_or (λ (r : FunctionRows). rows.is_own_frame r e.context.entry) (rows.function_at p e.context.function) false

-- AN EDGE STANDS FOR A CALLED FRAME, and for a root's own where its context is followed in one: a called frame that begins as such a frame does
-- has no edges of its own
abbrev pub StandsForKind : ProgramRows → NumberedEdge → Bool → Type 0
StandsForKind p e k = k ≡ true → is_own_in p e ≡ true

-- an edge of the list stands at the block with that global state, for frames of that function and that kind
pub record StandsAt (ts : List Text) (gs : List Graph) (p : ProgramRows) (log : List NumberedEdge) (f : Function) (k : Bool) (b g : ℕ) : Type 0 where
  pub edge : NumberedEdge
  pub among : Contains log edge
  pub named : function_at ts edge.context.function ≡ Some f
  pub kind : StandsForKind p edge k
  pub block : block_at gs edge.context.function edge.block ≡ b
  pub global : edge.tuple.global ≡ g

abbrev pub stands_in : (c : Checker) (ts : List Text) (gs : List Graph) → ProgramRows → List NumberedEdge → BlockStates (model c) (flow_graphs c ts gs)
stands_in c ts gs p log f k b g = StandsAt ts gs p log f k b g

module _ (c : Checker) where
  -- THE OBJECT TAKES A RULE while it is unknown, at an event with this global state
  abbrev pub TakesUnknown : Function → Bool → Happening → ℕ → Object → Type 0
  TakesUnknown f k h g o = is_some (taken c.machine c.depth h f k g o None) ≡ true

  -- at one of these events, which begin in this global state
  abbrev pub TakesAmong : Function → Bool → List Happening → ℕ → Object → Type 0
  TakesAmong f k [] g o = ⊥
  TakesAmong f k (h ∷ hs) g o = TakesUnknown f k h g o ⊎ TakesAmong f k hs (next_global c.machine c.depth h f k g) o

  module _ (ts : List Text) (gs : List Graph) (p : ProgramRows) (log : List NumberedEdge) where
    -- the global states that the edges of a list meet at events
    abbrev pub met_by : MetStates (model c)
    met_by = MetInBlocks (model c) (flow_graphs c ts gs) (stands_in c ts gs p log)

    -- IT IS BOUND WHERE A STATE IS MET: it takes a rule in such a state, in the function with this number
    pub record IsBoundWhereMet (y : Member) : Type 0 where
      pub fn : Function
      pub named : function_at ts y.0 ≡ Some fn
      pub event : Happening
      pub kind : Bool
      pub global : ℕ
      pub met : met_by fn event kind global
      pub takes : TakesUnknown fn kind event global y.1

  -- ---- as edges give them

  -- at an event of the function with this number, in frames of this kind and in this global state
  abbrev pub GivesOne : Function → Bool → Happening → ℕ → ℕ → Object → Member → Type 0
  GivesOne f k h g n o y = (member n o ≡ y) × TakesUnknown f k h g o

  abbrev pub GivesAt : Function → Bool → Happening → ℕ → ℕ → Member → Type 0
  GivesAt f k h g n y = (n ≡ y.0) × TakesUnknown f k h g y.1

  -- at one of these events, the first in this state
  abbrev pub GivesAmong : Function → Bool → List Happening → ℕ → ℕ → Member → Type 0
  GivesAmong f k hs g n y = (n ≡ y.0) × TakesAmong f k hs g y.1

  module _ (ts : List Text) (gs : List Graph) where
    -- at one of the events of an edge's block, in frames of this kind of the function that it names
    pub record GivesInKind (e : NumberedEdge) (k : Bool) (y : Member) : Type 0 where
      pub fn : Function
      pub named : function_at ts e.context.function ≡ Some fn
      pub gives : GivesAmong fn k ((flow_graphs c ts gs).events fn (block_at gs e.context.function e.block)) e.tuple.global e.context.function y

    -- for which it stands
    pub record GivesBound (p : ProgramRows) (e : NumberedEdge) (y : Member) : Type 0 where
      pub kind : Bool
      pub stands : StandsForKind p e kind
      pub gives : GivesInKind e kind y
