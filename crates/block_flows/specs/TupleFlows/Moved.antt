-- What a tuple becomes under the move of an event, before any rule is taken.
use Rattle.std.specs.Prelude.{◌≡◌, ℕ, IsTrue, Option, List, Contains}
use Rattle.c_objects.specs.Objects.{Object, IsObject}
use Rattle.masked_paths.specs.StrictFlows.Among.{if_followed, of_followed}
use Rattle.path_model.specs.CheckerModel.Choices.{State}
use Rattle.path_model.specs.CheckerModel.Moves.{Move, source}
use Rattle.path_theory.specs.Facts.{FactOf, NoObject, HasObject, Gives, IfNoObject}
use Rattle.state_tuples.specs.declared.tuple.Tuple.{Tuple}
use Rattle.block_flows.specs.TupleFlows.Facts.{fact_in, is_in}

-- each of the list is an object at this depth
abbrev pub AreObjects : ℕ → List Object → Type 0
AreObjects depth objects = (o : Object) → Contains objects o → IsObject depth o

-- the object from which another one has its state behind a move, where both are followed
abbrev pub source_in : ℕ → Option Move → List Object → Object → Option Object
source_in depth m followed o = of_followed (is_in followed o) (if_followed (is_in followed) (source depth m o))

-- no object stays none, and gives each followed one that has no source which is followed, unknown; an object that is followed gives the
-- followed ones whose source it is, in its state
pub data MoveFlow (depth : ℕ) (m : Option Move) (followed : List Object) : FactOf Object State → FactOf Object State → Type 0 where
  MovesNone : MoveFlow depth m followed NoObject NoObject
  MovesObject : {t : FactOf Object State} (o : Object) (x : Option State) → IfNoObject t (IsTrue (is_in followed o)) → Gives (source_in depth m followed o) t x
      → MoveFlow depth m followed t (HasObject o x)

-- A TUPLE BEHIND THE MOVE of another one, in the same global state
pub record IsMoved (depth : ℕ) (m : Option Move) (followed : List Object) (t u : Tuple) : Type 0 where
  pub global : u.global ≡ t.global
  pub fact : MoveFlow depth m followed (fact_in t) (fact_in u)
