-- What assignments move, by computation. The names and variables are those of the examples of objects: the parameter p 0, the locals
-- s 1 and q 5, the array a 2 and the index i 3 over all files, the function g 6 and the member f 8.
use Rattle.std.proofs.Common.{◌≡◌, true, [], ◌∷◌, Option, None, Some, refl}
use Rattle.c_objects.specs.Objects.{Object, Deref, Field, At, AtVar, path, address_of}
use Rattle.c_objects.proofs.Building.{p, s, a, i, q, facts, place, name, number, star, address, index, arrow, call, unary_of}
use Rattle.flow_graph.specs.CPaths.Events.{Event, Evaluated, Declared, Branched, Exited}
use Rattle.c_tree.specs.declared.operator.AssignOp.TheVariants as assign
use Rattle.c_tree.specs.declared.operator.UnaryOp.TheVariants as unary
use Rattle.c_tree.specs.Node.{Node}
use Rattle.hole_matching.proofs.Building.{assigned, initialized, braces}
use Rattle.c_tree.specs.PathSubjects.Subjects.{Tree, DerefOf}
use Rattle.path_model.specs.CheckerModel.Moves.{move_of, source}

-- the source of an object at an event, at depth 4
abbrev at : Event → Object → Option Object
at e = source 4 (move_of facts 4 e)

abbrev behind : Node → Object → Option Object
behind e = at (Evaluated (Tree e))

-- p = *q: p, *p and p->f have the states of *q, **q and (*q)->f; q and s keep theirs
abbrev copy : Node
copy = assigned assign.Plain (name 0) (star (name 5))

pub copied : behind copy (path p []) ≡ Some (path q (Deref ∷ []))
copied = refl

copied_behind : behind copy (path p (Deref ∷ Field 8 ∷ [])) ≡ Some (path q (Deref ∷ Deref ∷ Field 8 ∷ []))
copied_behind = refl

source_keeps : behind copy (path q (Deref ∷ [])) ≡ Some (path q (Deref ∷ []))
source_keeps = refl

other_keeps : behind copy (path s []) ≡ Some (path s [])
other_keeps = refl

-- past the depth: (*q)->f->f has five steps
too_deep : behind copy (path p (Deref ∷ Field 8 ∷ Deref ∷ Field 8 ∷ [])) ≡ None
too_deep = refl

-- p = p->f: each object behind p has the state that stands one member further, also p->f itself
abbrev walk : Node
walk = assigned assign.Plain (name 0) (arrow (name 0) 8)

walked : behind walk (path p []) ≡ Some (path p (Deref ∷ Field 8 ∷ []))
walked = refl

walked_member : behind walk (path p (Deref ∷ Field 8 ∷ [])) ≡ Some (path p (Deref ∷ Field 8 ∷ Deref ∷ Field 8 ∷ []))
walked_member = refl

-- p = p changes nothing
itself : behind (assigned assign.Plain (name 0) (name 0)) (path p (Deref ∷ Field 8 ∷ [])) ≡ Some (path p (Deref ∷ Field 8 ∷ []))
itself = refl

-- p = g() makes p and what is behind it unknown, p += 1 and p++ too
abbrev fresh : Node
fresh = assigned assign.Plain (name 0) (call (name 6))

forgotten : behind fresh (path p []) ≡ None
forgotten = refl

forgotten_behind : behind fresh (path p (Deref ∷ Field 8 ∷ [])) ≡ None
forgotten_behind = refl

added : behind (assigned assign.Add (name 0) (name 5)) (path p []) ≡ None
added = refl

increased : behind (unary_of unary.PostInc (name 0)) (path p (Deref ∷ [])) ≡ None
increased = refl

-- an address goes with what is pointed at, &p->f, and stays where only members lie between, &s.f
address_behind : behind copy (address_of p (Deref ∷ Field 8 ∷ [])) ≡ Some (address_of q (Deref ∷ Deref ∷ Field 8 ∷ []))
address_behind = refl

address_in : behind (assigned assign.Plain (name 1) (call (name 6))) (address_of s (Field 8 ∷ [])) ≡ Some (address_of s (Field 8 ∷ []))
address_in = refl

-- i = 1 makes a[i] unknown, and so does i = i; a[1] and a keep their states
abbrev counted : Node
counted = assigned assign.Plain (name 3) (number 1)

index_changes : behind counted (path a (AtVar i ∷ [])) ≡ None
index_changes = refl

index_copied : behind (assigned assign.Plain (name 3) (name 3)) (path a (AtVar i ∷ Deref ∷ [])) ≡ None
index_copied = refl

number_keeps : behind counted (path a (At 1 ∷ [])) ≡ Some (path a (At 1 ∷ []))
number_keeps = refl

-- a[i] = p: *a[i] has the state of *p
element : behind (assigned assign.Plain (index (name 2) (name 3)) (name 0)) (path a (AtVar i ∷ Deref ∷ [])) ≡ Some (path p (Deref ∷ []))
element = refl

-- q = &s: *q has the state of s, q that of &s
pointed : behind (assigned assign.Plain (name 5) (address (name 1))) (path q (Deref ∷ [])) ≡ Some (path s [])
pointed = refl

pointing : behind (assigned assign.Plain (name 5) (address (name 1))) (path q []) ≡ Some (address_of s [])
pointing = refl

-- an initial value is an assignment; braces and the declaration alone make unknown
initial : behind (initialized (name 5) (name 0)) (path q []) ≡ Some (path p [])
initial = refl

in_braces : behind (initialized (name 5) (braces [])) (path q []) ≡ None
in_braces = refl

declared : at (Declared (record { place = record { file = 0; token = 15 }; name = 5 })) (path q (Deref ∷ [])) ≡ None
declared = refl

-- other events move nothing
evaluated : behind (star (name 0)) (path p []) ≡ Some (path p [])
evaluated = refl

read_out : at (Evaluated (DerefOf (name 0))) (path p []) ≡ Some (path p [])
read_out = refl

branched : at (Branched (name 0) true) (path p []) ≡ Some (path p [])
branched = refl

exited : at (Exited place place) (path p []) ≡ Some (path p [])
exited = refl

-- what has too many steps is unknown
unknown : at (Exited place place) (path p (Deref ∷ Deref ∷ Deref ∷ Deref ∷ Deref ∷ [])) ≡ None
unknown = refl

-- after q = &s, &*q would be an address of what ends in `*`: it is no object
no_object : behind (assigned assign.Plain (name 5) (address (name 1))) (address_of q (Deref ∷ [])) ≡ None
no_object = refl
