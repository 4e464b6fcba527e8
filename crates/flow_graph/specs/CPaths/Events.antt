-- What happens in a function: events, with a mark at each call.
-- A call and its return are no events of the calling function. They come into a path where a call that is marked is
-- followed.
use Rattle.std.specs.Prelude.{ℕ, Bool}
use Rattle.c_tree.specs.declared.place.Place.{Place}
use Rattle.c_tree.specs.Node.{Node}
use Rattle.c_tree.specs.PathSubjects.Subjects.{Subject, Tree, DerefOf}
use Rattle.path_theory.specs.Marks.{Mark, EventMark, CallMark}

-- a variable of a block with automatic storage (ISO 9899:1990, 6.1.2.4), by its declared name; a parameter is none
pub record Variable : Type 0 where
  pub place : Place
  pub name : ℕ

pub data Event : Type 0 where
  -- an expression, or the initializer of a name, has been evaluated
  Evaluated : Subject → Event
  -- the declaration of a variable has been reached
  Declared : Variable → Event
  -- a condition has come out as this truth
  Branched : Node → Bool → Event
  -- the function whose name is defined at the first place ends: at a `return`, or at the closing brace of its body
  Exited : Place → Place → Event

-- an event, or the mark of a call whose callee has a body
abbrev pub Item : Type 0
Item = Mark Event Node

abbrev pub evaluated : Node → Item
evaluated n = EventMark (Evaluated (Tree n))

abbrev pub dereferenced : Node → Item
dereferenced x = EventMark (Evaluated (DerefOf x))

abbrev pub declared : Variable → Item
declared x = EventMark (Declared x)

abbrev pub branched : Node → Bool → Item
branched n t = EventMark (Branched n t)

abbrev pub exited : Place → Place → Item
exited function place = EventMark (Exited function place)

abbrev pub called : Node → Item
called n = CallMark n
