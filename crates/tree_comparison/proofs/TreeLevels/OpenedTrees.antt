-- The level of a primary expression is that of the tree which it is.
use Rattle.std.proofs.Common.{◌≡◌, ℕ, refl, sym, subst}
use Rattle.c_objects.specs.Facts.{Facts}
use Rattle.c_tree.specs.declared.place.Place.{Place}
use Rattle.c_tree.specs.declared.tree.Tree.{Tree}
use Rattle.c_tree.specs.declared.tree.Kind as kinds
use Rattle.c_tree.specs.declared.expression.Primary as primary
use Rattle.c_tree.specs.Node.{PrimaryShape, node, Primary, Ident, Constant, StrConst, Paren, VaArg, Offsetof, Hole}
use Rattle.c_tree.specs.Views.{node_of, shape_of, primary_shape}
use Rattle.tree_comparison.specs.TreeLevels.Levels.{opened, primary_opened}
use Rattle.hole_matching.specs.Subjects.{inner, head_of, parts_of}
use Rattle.c_tree.specs.PathSubjects.Subjects.{Subject}
use Rattle.c_tree.specs.PathSubjects.Subjects as subjects

by-primary : (u : Facts) (i : ℕ) (p : Place) (k : PrimaryShape)
    → primary_opened u k ≡ opened (head_of u (inner (subjects.Tree (node i p (Primary k))))) (parts_of (inner (subjects.Tree (node i p (Primary k)))))
by-primary u i p (Ident name) = refl
by-primary u i p (Constant token) = refl
by-primary u i p (StrConst literals) = refl
by-primary u i p (Paren e) = refl
by-primary u i p (VaArg list of) = refl
by-primary u i p (Offsetof of member path) = refl
by-primary u i p (Hole number) = refl

pub at_primary : (u : Facts) (t : Tree) (k : primary.Primary) → t.kind ≡ kinds.Primary k
    → primary_opened u (primary_shape k) ≡ opened (head_of u (inner (subjects.Tree (node_of t)))) (parts_of (inner (subjects.Tree (node_of t))))
at_primary u t k e =
    let P : kinds.Kind → Type 0 = λ x. primary_opened u (primary_shape k) ≡ opened (head_of u (inner (subjects.Tree (node t.id t.first (shape_of x))))) (parts_of (inner (subjects.Tree (node t.id t.first (shape_of x))))) in
    subst P (sym e) (by-primary u t.id t.first (primary_shape k))
