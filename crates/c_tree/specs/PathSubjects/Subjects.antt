-- What is evaluated, as events name it and patterns are matched with it, and where it stands in the text.
use Rattle.c_tree.specs.declared.place.Place.{Place}
use Rattle.c_tree.specs.Node.{Node, node, Initializer, Init}

-- A tree, or the `*x` that is read out of `x->f`, which is given by the x: `x->f` stands for `(*x).f`
-- (ISO 9899:1990, 6.3.2.3).
pub data Subject : Type 0 where
  Tree : Node → Subject
  DerefOf : Node → Subject

-- the place of a node's first token
abbrev pub first_of : Node → Place
first_of (node i p s) = p

-- the initializer of a name stands at the declared name, everything else at its first token
abbrev pub tree_place : Node → Place
tree_place (node i p (Initializer (Init name declarator initial))) = first_of name
tree_place (node i p s) = p

-- the `*x` that is read out of `x->f` begins where that does
abbrev pub subject_place : Subject → Place
subject_place (Tree n) = tree_place n
subject_place (DerefOf x) = first_of x
