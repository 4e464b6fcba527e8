-- The facts of the exploded supergraph: no object, or one object with its state. Beside a global state a fact is a
-- state tuple.
-- Two things are kept apart: no object at all, and an object whose state is unknown.
use Rattle.std.specs.Prelude.{Option, Some, None}
use Rattle.path_theory.specs.Model.{Model}

pub data FactOf (O S : Type 0) : Type 0 where
  NoObject : FactOf O S
  HasObject : O → Option S → FactOf O S

abbrev pub Fact : Model → Type 0
Fact M = FactOf M.Obj M.State

-- the fact gives the state of this object, or of none, which is unknown
pub data Gives {O S : Type 0} : Option O → FactOf O S → Option S → Type 0 where
  GivesNone : Gives None NoObject None
  GivesState : {o : O} {x : Option S} → Gives (Some o) (HasObject o x) x

-- the fact of an object, or of none, in a map
abbrev pub fact_of : {O S : Type 0} → Option O → (O → Option S) → FactOf O S
fact_of None m = NoObject
fact_of (Some o) m = HasObject o (m o)

-- the objects that are followed in each function
abbrev pub Objects : Model → Type 1
Objects M = M.Fn → M.Obj → Type 0

-- no object, or one that is followed
abbrev pub IsFollowed : (M : Model) → Objects M → M.Fn → Fact M → Type 0
IsFollowed M A f NoObject = Unit {0}
IsFollowed M A f (HasObject o x) = A f o

-- what is asked only where there is no object: that one that begins here is among those that are followed
abbrev pub IfNoObject : {O S : Type 0} → FactOf O S → Type 0 → Type 0
IfNoObject NoObject P = P
IfNoObject (HasObject o x) P = Unit {0}
