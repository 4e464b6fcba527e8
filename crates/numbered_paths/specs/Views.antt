-- WHAT NUMBERS STAND FOR: functions, the objects that are followed in each, states, global states and blocks.
use Rattle.std.specs.Prelude.{◌≡◌, ℕ, Option, None, Some}
use Rattle.path_theory.specs.Facts.{Fact, NoObject, HasObject, Objects}
use Rattle.path_theory.specs.FlowGraphs.{FlowGraphs}
use Rattle.path_theory.specs.Model.{Model}
use Rattle.row_flows.specs.declared.tuples.NumberedTuple.{NumberedTuple}

pub record Views (M : Model) (G : FlowGraphs M) : Type 0 where
  pub function : ℕ → Option M.Fn
  -- of a function, by its number: the object with a number; 0 is that of none
  pub object : ℕ → ℕ → Option M.Obj
  -- the state with a number; 0 is that of the unknown one
  pub state : ℕ → Option M.State
  pub global : ℕ → M.Global
  -- of a function, by its number: the block with a number; 0 is that of its first block
  pub block : ℕ → ℕ → G.Block

module _ (M : Model) (A : Objects M) (G : FlowGraphs M) (V : Views M G) where
  -- NO TWO NUMBERS stand for one thing, and all that is followed has a number
  pub record AreNumbers : Type 0 where
    pub functions : (n m : ℕ) (f : M.Fn) → V.function n ≡ Some f → V.function m ≡ Some f → n ≡ m
    pub no_object : (n : ℕ) → V.object n 0 ≡ None
    pub objects : (n i j : ℕ) (o : M.Obj) → V.object n i ≡ Some o → V.object n j ≡ Some o → i ≡ j
    pub followed : (n : ℕ) (f : M.Fn) (i : ℕ) (o : M.Obj) → V.function n ≡ Some f → V.object n i ≡ Some o → A f o
    pub numbered : (n : ℕ) (f : M.Fn) (o : M.Obj) → V.function n ≡ Some f → A f o → (i : ℕ) × V.object n i ≡ Some o
    pub no_state : V.state 0 ≡ None
    pub states : (i j : ℕ) (x : M.State) → V.state i ≡ Some x → V.state j ≡ Some x → i ≡ j
    pub globals : (g h : ℕ) → V.global g ≡ V.global h → g ≡ h
    pub blocks : (n : ℕ) (b : G.Block) → (d : ℕ) × V.block n d ≡ b

  -- the fact of an object, if there is one
  abbrev pub fact_of : Option M.Obj → Option M.State → Fact M
  fact_of None x = NoObject
  fact_of (Some o) x = HasObject o x

  -- THE FACT of a tuple in a function
  abbrev pub fact_at : ℕ → NumberedTuple → Fact M
  fact_at n t = fact_of (V.object n t.object) (V.state t.state)

  -- a state that there is, or the unknown one
  pub data IsState (x : ℕ) : Type 0 where
    IsUnknown : x ≡ 0 → IsState x
    IsKnown : (s : M.State) → V.state x ≡ Some s → IsState x

  -- THE NUMBERS OF A TUPLE stand for something: without an object there is no state
  pub data IsNumbered (n : ℕ) (t : NumberedTuple) : Type 0 where
    IsBare : t.object ≡ 0 → t.state ≡ 0 → IsNumbered n t
    IsOf : (o : M.Obj) → V.object n t.object ≡ Some o → IsState t.state → IsNumbered n t
