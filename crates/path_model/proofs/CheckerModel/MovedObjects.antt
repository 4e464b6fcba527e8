-- What events write over is a path, and what they copy is an object; so are the actuals of calls.
use Rattle.std.proofs.Common.{◌≡◌, ℕ, [], Bool, true, false, Option, None, Some, IfSome, refl, subst, cond}
use Rattle.c_objects.specs.Facts.{Facts}
use Rattle.c_objects.specs.Objects.{Object, IsObject, path}
use Rattle.c_objects.specs.ObjectOf.{object_of}
use Rattle.c_objects.proofs.Plain.{object-object}
use Rattle.flow_graph.specs.CPaths.Events.{Event, Evaluated, Declared, Branched, Exited}
use Rattle.c_tree.specs.declared.operator.AssignOp.{AssignOp}
use Rattle.c_tree.specs.declared.operator.AssignOp.TheVariants as assign
use Rattle.c_tree.specs.declared.operator.UnaryOp.{UnaryOp}
use Rattle.c_tree.specs.declared.operator.UnaryOp.TheVariants as unary
use Rattle.c_tree.specs.Node.{Node, node, Nodes, no_more, more, Operation, Initializer, Assign, Unary, Call, Init}
use Rattle.path_model.specs.CheckerModel.Calls.{AreObjects, objects_of, actuals_of}
use Rattle.path_model.specs.CheckerModel.Moves.{Move, IsMove, moving, assigned, stepped, initialized, tree_move, local_of, move_of}
use Rattle.hole_matching.specs.Subjects.{is_braced}
use Rattle.c_tree.specs.PathSubjects.Subjects.{Tree, DerefOf}

moving-is : (depth : ℕ) (to from : Option Object) (m : Move) → ((a : Object) → from ≡ Some a → IsObject depth a) → moving to from ≡ Some m → IsMove depth m
moving-is depth None from m h e = cc
moving-is depth (Some l) from m h e = by l.address refl e
  where
    some : (x : Option Object) → ((a : Object) → x ≡ Some a → IsObject depth a) → IfSome x (IsObject depth)
    some None k = tt
    some (Some a) k = k a refl

    by : (b : Bool) → l.address ≡ b → cond b None (Some (record { to = l; from = from })) ≡ Some m → IsMove depth m
    by true a k = cc
    by false a k = let same : record { to = l; from = from } ≡ m = cc in subst (IsMove depth) same (record { path = a; object = some from h })

no-object : (depth : ℕ) (a : Object) → None ≡ Some a → IsObject depth a
no-object depth a h = cc

assigned-is : (u : Facts) (depth : ℕ) (op : AssignOp) (l r : Node) (m : Move) → assigned u depth op l r ≡ Some m → IsMove depth m
assigned-is u depth assign.Plain l r m h = moving-is depth (object_of u depth l) (object_of u depth r) m (object-object u depth r) h
assigned-is u depth op l r m h = moving-is depth (object_of u depth l) None m (no-object depth) h

stepped-is : (u : Facts) (depth : ℕ) (op : UnaryOp) (x : Node) (m : Move) → stepped u depth op x ≡ Some m → IsMove depth m
stepped-is u depth unary.PostInc x m h = moving-is depth (object_of u depth x) None m (no-object depth) h
stepped-is u depth unary.PostDec x m h = moving-is depth (object_of u depth x) None m (no-object depth) h
stepped-is u depth unary.PreInc x m h = moving-is depth (object_of u depth x) None m (no-object depth) h
stepped-is u depth unary.PreDec x m h = moving-is depth (object_of u depth x) None m (no-object depth) h
stepped-is u depth op x m h = cc

initialized-is : (u : Facts) (depth : ℕ) (name initial : Node) (m : Move) → initialized u depth name initial ≡ Some m → IsMove depth m
initialized-is u depth name initial m h = moving-is depth (object_of u depth name) (cond (is_braced initial) None (object_of u depth initial)) m (by (is_braced initial)) h
  where
    by : (b : Bool) (a : Object) → cond b None (object_of u depth initial) ≡ Some a → IsObject depth a
    by true a e = cc
    by false a e = object-object u depth initial a e

tree-is : (u : Facts) (depth : ℕ) (e : Node) (m : Move) → tree_move u depth e ≡ Some m → IsMove depth m
tree-is u depth (node i p (Operation (Assign op l r))) m h = assigned-is u depth op l r m h
tree-is u depth (node i p (Operation (Unary op x))) m h = stepped-is u depth op x m h
tree-is u depth (node i p (Initializer (Init name declarator initial))) m h = initialized-is u depth name initial m h
tree-is u depth e m h = cc

pub move-is : (u : Facts) (depth : ℕ) (e : Event) (m : Move) → move_of u depth e ≡ Some m → IsMove depth m
move-is u depth (Evaluated (Tree e)) m h = tree-is u depth e m h
move-is u depth (Evaluated (DerefOf x)) m h = cc
move-is u depth (Declared x) m h = moving-is depth (Some (path (local_of x) [])) None m (no-object depth) h
move-is u depth (Branched n truth) m h = cc
move-is u depth (Exited function place) m h = cc

-- the objects of trees are objects
objects-are : (u : Facts) (depth : ℕ) (es : Nodes) → AreObjects depth (objects_of u depth es)
objects-are u depth no_more = tt
objects-are u depth (more e es) = (object-object u depth e, objects-are u depth es)

pub actuals-are : (u : Facts) (depth : ℕ) (e : Node) → AreObjects depth (actuals_of u depth e)
actuals-are u depth (node i p (Operation (Call callee paren arguments))) = objects-are u depth arguments
actuals-are u depth e = tt
