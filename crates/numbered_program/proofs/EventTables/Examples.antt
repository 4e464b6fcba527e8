-- Rows of a worked example, by computation. The names and variables are those of the examples of objects: the parameter p 0, the local q 5,
-- the array a 2 and the index i 3.
use Rattle.std.proofs.Common.{◌≡◌, List, [], ◌∷◌, true, refl}
use Rattle.std.specs.Prelude.{ℕ}
use Rattle.c_objects.specs.Objects.{Object, Deref, AtVar, path}
use Rattle.c_objects.proofs.Building.{p, a, i, q, facts, name, star}
use Rattle.c_tree.specs.Node.{Node}
use Rattle.c_tree.specs.PathSubjects.Subjects.{Tree}
use Rattle.c_tree.specs.declared.operator.AssignOp.TheVariants as assign
use Rattle.numbered_program.specs.EventTables.ObjectIndex.{numbers_with}
use Rattle.numbered_program.specs.EventTables.Touched.{touched_rows}
use Rattle.flow_graph.specs.CPaths.Events.{Evaluated, Branched}
use Rattle.hole_matching.proofs.Building.{assigned}
use Rattle.path_model.specs.CheckerModel.Moves.{move_of}
use Rattle.row_flows.specs.declared.rows.Touched.{Touched}

-- the object with a number has its state from that with this one, 0 from none
abbrev touched : ℕ → ℕ → Touched
touched object source = record { object = object; source = source }

-- p, *p, *q and a[i] are followed
abbrev followed : List Object
followed = path p [] ∷ path p (Deref ∷ []) ∷ path q (Deref ∷ []) ∷ path a (AtVar i ∷ []) ∷ []

abbrev behind : Node → List Touched
behind e = touched_rows 4 (move_of facts 4 (Evaluated (Tree e))) followed

-- p = *q: p has the state of *q, and *p that of **q, which isn't followed
copied : behind (assigned assign.Plain (name 0) (star (name 5))) ≡ touched 1 3 ∷ touched 2 0 ∷ []
copied = refl

-- q = p: *q has the state of *p
copied_behind : behind (assigned assign.Plain (name 5) (name 0)) ≡ touched 3 2 ∷ []
copied_behind = refl

-- i = p: a[i] is another element
index_changes : behind (assigned assign.Plain (name 3) (name 0)) ≡ touched 4 0 ∷ []
index_changes = refl

-- p = p changes nothing
itself : behind (assigned assign.Plain (name 0) (name 0)) ≡ []
itself = refl

-- a condition moves nothing
condition : touched_rows 4 (move_of facts 4 (Branched (name 0) true)) followed ≡ []
condition = refl

with_index : numbers_with i followed ≡ 4 ∷ []
with_index = refl

with_base : numbers_with p followed ≡ 1 ∷ 2 ∷ []
with_base = refl
