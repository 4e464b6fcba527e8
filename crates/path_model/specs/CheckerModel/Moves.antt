-- MOVES (kills and synonyms): an assignment takes the states of what it writes over, and hands on the states of what it copies.
use Rattle.std.specs.Prelude.{◌≡◌, ℕ, List, [], ◌∷◌, Bool, true, false, cond, not, ◌&&◌, ◌||◌, Option, None, Some, IfSome}
use Rattle.c_objects.specs.Facts.{Facts}
use Rattle.c_objects.specs.Objects.{Selector, Object, IsObject, if_object, path, is_indexed_by}
use Rattle.c_objects.specs.ObjectOf.{object_of}
use Rattle.c_objects.specs.Paths.{rest, has_access, rebase}
use Rattle.flow_graph.specs.CPaths.Events.{Variable, Event, Evaluated, Declared, Branched, Exited}
use Rattle.c_tree.specs.declared.operator.AssignOp.{AssignOp}
use Rattle.c_tree.specs.declared.operator.AssignOp.TheVariants as assign
use Rattle.c_tree.specs.declared.operator.UnaryOp.{UnaryOp}
use Rattle.c_tree.specs.declared.operator.UnaryOp.TheVariants as unary
use Rattle.c_tree.specs.Node.{Node, node, Operation, Initializer, Unary, Assign, Init}
use Rattle.type_rules.specs.Options.{if_there, ◌>?◌}
use Rattle.type_rules.specs.Vars.{CVar, Local}
use Rattle.hole_matching.specs.Subjects.{is_braced}
use Rattle.c_tree.specs.PathSubjects.Subjects.{Tree, DerefOf}

-- the path that is written over, and the object that is copied to it, if it has one
pub record Move : Type 0 where
  pub to : Object
  pub from : Option Object

-- what is written over is a path, and what is copied is an object
pub record IsMove (depth : ℕ) (m : Move) : Type 0 where
  pub path : m.to.address ≡ false
  pub object : IfSome m.from (IsObject depth)

-- to an object that is a path; nothing moves where there is none, or the address of one
abbrev pub moving : Option Object → Option Object → Option Move
moving to from = to >? λ l. cond l.address None (Some (record { to = l; from = from }))

-- `L = R` copies, and `L += R` and the like only write over (ISO 9899:1990, 6.3.16)
abbrev pub assigned : Facts → ℕ → AssignOp → Node → Node → Option Move
assigned u depth assign.Plain left right = moving (object_of u depth left) (object_of u depth right)
assigned u depth op left right = moving (object_of u depth left) None

-- a name with an initial value; braces are no object (6.5.7)
abbrev pub initialized : Facts → ℕ → Node → Node → Option Move
initialized u depth name initial = moving (object_of u depth name) (cond (is_braced initial) None (object_of u depth initial))

-- `++` and `--` write over their operand, and no other operator of one does (6.3.2.4, 6.3.3.1)
abbrev pub stepped : Facts → ℕ → UnaryOp → Node → Option Move
stepped u depth unary.PostInc operand = moving (object_of u depth operand) None
stepped u depth unary.PostDec operand = moving (object_of u depth operand) None
stepped u depth unary.PreInc operand = moving (object_of u depth operand) None
stepped u depth unary.PreDec operand = moving (object_of u depth operand) None
stepped u depth op operand = None

abbrev pub tree_move : Facts → ℕ → Node → Option Move
tree_move u depth (node i p (Operation (Assign op left right))) = assigned u depth op left right
tree_move u depth (node i p (Operation (Unary op operand))) = stepped u depth op operand
tree_move u depth (node i p (Initializer (Init name declarator initial))) = initialized u depth name initial
tree_move u depth e = None

abbrev pub local_of : Variable → CVar
local_of x = Local x.place.file x.place.token x.name

-- WHAT AN EVENT MOVES. A declaration writes over its variable; a condition and an exit move nothing.
abbrev pub move_of : Facts → ℕ → Event → Option Move
move_of u depth (Evaluated (Tree e)) = tree_move u depth e
move_of u depth (Evaluated (DerefOf x)) = None
move_of u depth (Declared x) = moving (Some (path (local_of x) [])) None
move_of u depth (Branched n truth) = None
move_of u depth (Exited function place) = None

abbrev pub is_bare : List Selector → Bool
is_bare [] = true
is_bare (s ∷ ss) = false

-- An object is under a path that is written over: it goes on behind it, or is the address of what does so by way of `*` or an
-- index. These are the steps behind the path.
abbrev pub under : Object → Object → Option (List Selector)
under l o = rest o l >? λ r. cond (not o.address || has_access r) (Some r) None

-- the path is a variable, and that is an index in these steps
abbrev pub indexes : Object → List Selector → Bool
indexes l ss = is_bare l.selectors && is_indexed_by ss l.base

-- behind an object that is copied, where no index of these steps changes
abbrev pub copied : ℕ → Move → Object → List Selector → Option Object
copied depth m o r = cond (indexes m.to r) None (m.from >? λ a. rebase depth o m.to a)

-- THE SOURCE OF AN OBJECT: the object whose state before the move it has behind it. What is under the path that is written over
-- has what is copied there; an object in which the path is an index has none; every other object keeps its state.
abbrev pub source_of : ℕ → Move → Object → Option Object
source_of depth m o = if_there (under m.to o) (cond (indexes m.to o.selectors) None (Some o)) (copied depth m o)

-- what is no object at the depth has none
abbrev pub source : ℕ → Option Move → Object → Option Object
source depth None o = if_object depth o
source depth (Some m) o = if_object depth o >? source_of depth m
