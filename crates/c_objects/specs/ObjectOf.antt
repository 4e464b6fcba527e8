-- THE OBJECT OF A TREE: the path by which an expression (ISO 9899:1990, 6.3) names what it stands for.
use Rattle.std.specs.Prelude.{ℕ, List, [], ◌∷◌, cond, Option, None, Some}
use Rattle.std.specs.Option.{option_map}
use Rattle.c_objects.specs.Facts.{Facts, numbered_type, numbered_var}
use Rattle.c_objects.specs.Objects.{Selector, Deref, Field, At, AtVar, Object, path}
use Rattle.c_objects.specs.Paths.{append, addressed}
use Rattle.c_tree.specs.declared.operator.UnaryOp.TheVariants as unary
use Rattle.c_tree.specs.declared.token.TokenKind.{TokenKind}
use Rattle.c_tree.specs.declared.token.TokenKind.TheVariants as kinds
use Rattle.c_tree.specs.Node.{Node, node, Primary, Operation, PrimaryShape, OperationShape, Ident, Constant, Paren, Index, Member, Arrow, Unary, Cast}
use Rattle.type_rules.specs.Options.{◌>?◌}
use Rattle.type_rules.specs.Types.{CType, is_integer}
use Rattle.type_rules.specs.Vars.{CVar}

-- the value of an integer constant
abbrev pub integer_value : TokenKind → Option ℕ
integer_value (kinds.Int value decimal unsigned longs) = Some value
integer_value _ = None

abbrev pub integer_index : CType → CVar → Option Selector
integer_index t v = cond (is_integer t) (Some (AtVar v)) None

-- The step that an index is: under any parentheses and casts an integer constant, or a variable of integer type.
abbrev mutual
  pub index_of : Facts → Node → Option Selector
  index_of u (node i p (Primary k)) = primary_index u i k
  index_of u (node i p (Operation k)) = operation_index u k
  index_of u _ = None

  pub primary_index : Facts → ℕ → PrimaryShape → Option Selector
  primary_index u i (Ident name) = numbered_var u i >? integer_index (numbered_type u i)
  primary_index u i (Constant token) = option_map At (integer_value token.kind)
  primary_index u i (Paren inner) = index_of u inner
  primary_index u i _ = None

  pub operation_index : Facts → OperationShape → Option Selector
  operation_index u (Cast to operand) = index_of u operand
  operation_index u _ = None

-- these steps behind an object
abbrev pub onward : ℕ → List Selector → Option Object → Option Object
onward depth r o = o >? λ a. append depth a r

-- this step behind an object
abbrev pub onward_at : ℕ → Option Selector → Option Object → Option Object
onward_at depth step o = step >? λ s. onward depth (s ∷ []) o

abbrev mutual
  pub object_of : Facts → ℕ → Node → Option Object
  object_of u depth (node i p (Primary k)) = primary_object u depth i k
  object_of u depth (node i p (Operation k)) = operation_object u depth k
  object_of u depth _ = None

  -- a variable, and what stands in parentheses (6.3.1)
  pub primary_object : Facts → ℕ → ℕ → PrimaryShape → Option Object
  primary_object u depth i (Ident name) = option_map (λ v. path v []) (numbered_var u i)
  primary_object u depth i (Paren inner) = object_of u depth inner
  primary_object u depth i _ = None

  -- `x[i]`, `x.f`, `x->f`, `*x`, `&x`, and what is cast (6.3.2 to 6.3.4)
  pub operation_object : Facts → ℕ → OperationShape → Option Object
  operation_object u depth (Index array index) = onward_at depth (index_of u index) (object_of u depth array)
  operation_object u depth (Member operand member) = onward depth (Field member.name ∷ []) (object_of u depth operand)
  operation_object u depth (Arrow operand member) = onward depth (Deref ∷ Field member.name ∷ []) (object_of u depth operand)
  operation_object u depth (Unary unary.Deref operand) = onward depth (Deref ∷ []) (object_of u depth operand)
  operation_object u depth (Unary unary.AddressOf operand) = address_object u depth operand
  operation_object u depth (Cast to operand) = object_of u depth operand
  operation_object u depth _ = None

  -- `&x`: the object of `y` where `x` is `*y` under any parentheses, else the address of the path of `x`
  pub address_object : Facts → ℕ → Node → Option Object
  address_object u depth (node i p (Primary (Paren inner))) = address_object u depth inner
  address_object u depth (node i p (Primary k)) = primary_object u depth i k >? addressed
  address_object u depth (node i p (Operation (Unary unary.Deref operand))) = object_of u depth operand
  address_object u depth (node i p (Operation k)) = operation_object u depth k >? addressed
  address_object u depth _ = None
