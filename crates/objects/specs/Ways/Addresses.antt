-- Equal to the object of `&x` (`ObjectOf` of `c_objects`), by the kinds of `x`.
-- The object of `&x` by what `x` is.
use Rattle.std.specs.Prelude.{ℕ, [], ◌∷◌, Option, None}
use Rattle.std.specs.Option.{option_map}
use Rattle.c_objects.specs.Facts.{Facts, numbered_var}
use Rattle.c_objects.specs.ObjectOf.{object_of, address_object, index_of, onward, onward_at}
use Rattle.c_objects.specs.Objects.{Deref, Field, Object, path}
use Rattle.c_objects.specs.Paths.{addressed}
use Rattle.c_tree.specs.declared.operator.UnaryOp.TheVariants as unary
use Rattle.c_tree.specs.Node.{PrimaryShape, OperationShape, Ident, Paren, Index, Member, Arrow, Unary, Cast}
use Rattle.type_rules.specs.Options.{◌>?◌}

abbrev pub primary_address : Facts → ℕ → ℕ → PrimaryShape → Option Object
primary_address u depth i (Ident name) = option_map (λ v. path v []) (numbered_var u i) >? addressed
primary_address u depth i (Paren inner) = address_object u depth inner
primary_address u depth i _ = None

abbrev pub operation_address : Facts → ℕ → OperationShape → Option Object
operation_address u depth (Index array index) = onward_at depth (index_of u index) (object_of u depth array) >? addressed
operation_address u depth (Member operand member) = onward depth (Field member.name ∷ []) (object_of u depth operand) >? addressed
operation_address u depth (Arrow operand member) = onward depth (Deref ∷ Field member.name ∷ []) (object_of u depth operand) >? addressed
operation_address u depth (Unary unary.Deref operand) = object_of u depth operand
operation_address u depth (Unary unary.AddressOf operand) = address_object u depth operand >? addressed
operation_address u depth (Cast to operand) = object_of u depth operand >? addressed
operation_address u depth _ = None
