-- What two trees are compared by is the head and the parts that they are matched by.
use Rattle.std.proofs.Common.{◌≡◌, List, [], ◌∷◌, Bool, true, false, None, Some, refl, ap, cond}
use Rattle.c_objects.specs.Facts.{Facts}
use Rattle.c_tree.specs.declared.operator.AssignOp.TheVariants as assign
use Rattle.c_tree.specs.Node.{Node, node, Shape, Primary, Operation, Initializer, Specifier, Part, PrimaryShape, OperationShape, InitializerShape, SpecifierShape, PartShape, Paren, Init, Nodes}
use Rattle.c_tree.specs.Node as nodes
use Rattle.hole_matching.specs.ComparedSubjects.{with_parts, compared, compared_all, compared_node, compared_nodes, compared_then, compared_part}
use Rattle.hole_matching.specs.Pattern.{Offsetof, Call, Assign, Braces, Designated, likewise, other, Patterns, more}
use Rattle.c_tree.specs.PathSubjects.Subjects.{Subject, Tree, DerefOf}
use Rattle.hole_matching.specs.Subjects.{inside, inner, is_braced, head_of, parts_of, part_head, part_parts, trees, trees_then}
use Rattle.hole_matching.specs.Written.{two_parts}

trees-compared : (u : Facts) (es : Nodes) → compared_nodes u es ≡ compared_all u (trees es)
trees-compared u nodes.no_more = refl
trees-compared u (nodes.more e es) = ap (more (compared_node u e)) (trees-compared u es)

trees_then-compared : (u : Facts) (es : Nodes) (ss : List Subject) → compared_then u es (compared_all u ss) ≡ compared_all u (trees_then es ss)
trees_then-compared u nodes.no_more ss = refl
trees_then-compared u (nodes.more e es) ss = ap (more (compared_node u e)) (trees_then-compared u es ss)

init-level : (b : Bool) (ps : Patterns) → cond b other (likewise (Assign assign.Plain) ps) ≡ with_parts (cond b None (Some (Assign assign.Plain))) ps
init-level true ps = refl
init-level false ps = refl

abbrev Level : Facts → Node → Type 0
Level u e = compared_node u e ≡ with_parts (head_of u (Tree (inside e))) (compared_all u (parts_of (Tree (inside e))))

part-level : (u : Facts) (k : PartShape) → compared_part u k ≡ with_parts (part_head k) (compared_all u (part_parts k))
part-level u (nodes.IndexDesignator index) = refl
part-level u k = refl

node-level : (u : Facts) (e : Node) → Level u e
node-level u (node i p (Primary (Paren e))) = node-level u e
node-level u (node i p (Primary (nodes.Offsetof of member path))) = ap (λ x. likewise (Offsetof member.name) (more (compared_node u of) x)) (trees-compared u path)
node-level u (node i p (Operation (nodes.Call callee paren arguments))) = ap (λ x. likewise Call (more (compared_node u callee) x)) (trees-compared u arguments)
node-level u (node i p (Initializer (Init name declarator initial))) = init-level (is_braced initial) (two_parts (compared_node u name) (compared_node u initial))
node-level u (node i p (Initializer (nodes.Braces elements comma))) = ap (likewise Braces) (trees-compared u elements)
node-level u (node i p (Initializer (nodes.Designated designators initial))) = ap (likewise Designated) (trees_then-compared u designators (Tree initial ∷ []))
node-level u (node i p (Part k)) = part-level u k
node-level u e = refl

pub level : (u : Facts) (s : Subject) → compared u s ≡ with_parts (head_of u (inner s)) (compared_all u (parts_of (inner s)))
level u (Tree e) = node-level u e
level u (DerefOf x) = refl
