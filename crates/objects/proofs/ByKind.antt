-- The object of `&x` by what `x` is, is that of the definition.
use Rattle.std.proofs.Common.{◌≡◌, ℕ, refl, sym, subst}
use Rattle.c_objects.specs.Facts.{Facts}
use Rattle.c_objects.specs.ObjectOf.{address_object}
use Rattle.c_tree.specs.declared.operator.UnaryOp.TheVariants as unary
use Rattle.c_tree.specs.declared.place.Place.{Place}
use Rattle.c_tree.specs.declared.tree.Tree.{Tree}
use Rattle.c_tree.specs.declared.tree.Kind as kinds
use Rattle.c_tree.specs.declared.expression.Primary as primary
use Rattle.c_tree.specs.declared.expression.Operation as operation
use Rattle.c_tree.specs.Node.{PrimaryShape, OperationShape, node, Primary, Operation, Ident, Paren, Index, Member, Arrow, Unary, Cast}
use Rattle.c_tree.specs.Views.{node_of, shape_of, primary_shape, operation_shape}
use Rattle.objects.specs.Ways.Addresses.{primary_address, operation_address}

by_primary : (u : Facts) (d i : ℕ) (p : Place) (k : PrimaryShape) → primary_address u d i k ≡ address_object u d (node i p (Primary k))
by_primary u d i p (Ident name) = refl
by_primary u d i p (Paren inner) = refl
by_primary u d i p _ = refl

by_operation : (u : Facts) (d i : ℕ) (p : Place) (k : OperationShape) → operation_address u d k ≡ address_object u d (node i p (Operation k))
by_operation u d i p (Index array index) = refl
by_operation u d i p (Member operand member) = refl
by_operation u d i p (Arrow operand member) = refl
by_operation u d i p (Unary unary.Deref operand) = refl
by_operation u d i p (Unary unary.AddressOf operand) = refl
by_operation u d i p (Cast to operand) = refl
by_operation u d i p _ = refl

pub at_primary : (u : Facts) (d : ℕ) (t : Tree) (k : primary.Primary) → t.kind ≡ kinds.Primary k → primary_address u d t.id (primary_shape k) ≡ address_object u d (node_of t)
at_primary u d t k e =
    let P : kinds.Kind → Type 0 = λ x. primary_address u d t.id (primary_shape k) ≡ address_object u d (node t.id t.first (shape_of x)) in
    subst P (sym e) (by_primary u d t.id t.first (primary_shape k))

pub at_operation : (u : Facts) (d : ℕ) (t : Tree) (k : operation.Operation) → t.kind ≡ kinds.Operation k → operation_address u d (operation_shape k) ≡ address_object u d (node_of t)
at_operation u d t k e =
    let P : kinds.Kind → Type 0 = λ x. operation_address u d (operation_shape k) ≡ address_object u d (node t.id t.first (shape_of x)) in
    subst P (sym e) (by_operation u d t.id t.first (operation_shape k))
