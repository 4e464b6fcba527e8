-- THE TABLE of types: what each kind of node makes of the types of its parts, or the fault that it names.
use Rattle.std.specs.Prelude.{ℕ, List, [], ◌∷◌, Option, None, Some, is_some, Bool, true, false, cond, not, ◌&&◌, ◌||◌, Result, Ok, Err}
use Rattle.c_tree.specs.declared.operator.UnaryOp.{UnaryOp}
use Rattle.c_tree.specs.declared.operator.UnaryOp.TheVariants as unary
use Rattle.c_tree.specs.declared.place.Place.{Place}
use Rattle.c_tree.specs.declared.token.Mark.TheVariants as marked
use Rattle.c_tree.specs.declared.token.Token.{Token}
use Rattle.c_tree.specs.declared.token.TokenKind.{TokenKind}
use Rattle.c_tree.specs.declared.token.TokenKind.TheVariants as kinds
use Rattle.c_tree.specs.Node.{Node, node, Shape, Primary, Operation, Initializer, Specifier, Declarator, Part, PrimaryShape, OperationShape, InitializerShape, SpecifierShape, DeclaratorShape, PartShape, Ident, Constant, StrConst, Paren, VaArg, Offsetof, Hole, Index, Call, Member, Arrow, CompoundLit, Unary, SizeofType, Cast, Binary, Cond, Assign, Init, TypeName, StructTag, StructBody, EnumTag, EnumBody, StructDeclaration, Enumerator, Nodes, no_more}
use Rattle.type_rules.specs.Arithmetic as kind
use Rattle.type_rules.specs.Constants.{constant_type, string_type}
use Rattle.type_rules.specs.Declarators.{around_maybe, name_of_shape, enumerator, clashes, member_clashes}
use Rattle.type_rules.specs.Faults.{Fault, Undeclared, NoField, Redeclared, NotPointer, NotStruct, NotFunction, NotLvalue}
use Rattle.type_rules.specs.Moves.{mention, declares, declares_member, inner_members}
use Rattle.type_rules.specs.Options.{if_there, or_fault, ◌>?◌, ◌>>=◌}
use Rattle.type_rules.specs.Roles.{Role, Callee, owner_of}
use Rattle.type_rules.specs.Scopes.{Scopes, Entry, Class, Variable, Enums, latest, member_of, is_among}
use Rattle.type_rules.specs.Scopes as held
use Rattle.type_rules.specs.Specified.{specified_type}
use Rattle.type_rules.specs.Tags.{sort_of, tag_fault, body_fault}
use Rattle.type_rules.specs.Types.{CType, Void, Arith, Pointer, Array, Func, Struct, Union, int, size, is_function, pointed, element, indexed, called, promoted, chosen, combined}
use Rattle.type_rules.specs.Vars.{CVar}

abbrev pub first : List CType → CType
first [] = Void
first (t ∷ ts) = t

abbrev pub second : List CType → CType
second [] = Void
second (t ∷ ts) = first ts

abbrev pub third : List CType → CType
third [] = Void
third (t ∷ ts) = second ts

-- `__func__` and its like name the function in which they stand, where they aren't declared
abbrev pub is_function_name : TokenKind → Bool
is_function_name (kinds.Word marked.FunctionName) = true
is_function_name _ = false

abbrev pub is_callee : Role → Bool
is_callee Callee = true
is_callee _ = false

-- the type of a name that isn't in scope: a callee is a function giving int (6.3.2.2)
abbrev pub undeclared : Role → Place → Token → Result CType Fault
undeclared r p name =
    cond (is_function_name name.kind) (Ok (Array (Arith kind.Char)))
    (cond (is_callee r) (Ok (Func int)) (Err (Undeclared p name.name)))

-- a name by itself (6.3.1)
abbrev pub identifier : Scopes → Role → Place → Token → Result CType Fault
identifier v r p name = if_there (latest name.name v.names) (undeclared r p name) (λ k. Ok k.ty)

abbrev pub is_variable : Class → Bool
is_variable Variable = true
is_variable _ = false

-- a name in scope that stands for an object
abbrev pub is_object : Entry → Bool
is_object k = is_variable k.class && not (is_function k.ty)

-- the variable that a name stands for; a function is none
abbrev pub variable_of : Scopes → ℕ → Option CVar
variable_of v name = latest name v.names >? λ k. cond (is_object k) k.var None

-- lvalues (6.2.2.1)
abbrev pub is_deref : UnaryOp → Bool
is_deref unary.Deref = true
is_deref _ = false

abbrev mutual
  pub is_lvalue : Scopes → Node → Bool
  is_lvalue v (node i p (Primary k)) = is_primary_lvalue v k
  is_lvalue v (node i p (Operation k)) = is_operation_lvalue v k
  is_lvalue v _ = false

  pub is_primary_lvalue : Scopes → PrimaryShape → Bool
  is_primary_lvalue v (Ident name) = if_there (latest name.name v.names) false is_object
  is_primary_lvalue v (StrConst literals) = true
  is_primary_lvalue v (Paren inner) = is_lvalue v inner
  is_primary_lvalue v _ = false

  pub is_operation_lvalue : Scopes → OperationShape → Bool
  is_operation_lvalue v (Index array index) = true
  is_operation_lvalue v (Member operand member) = is_lvalue v operand
  is_operation_lvalue v (Arrow operand member) = true
  is_operation_lvalue v (CompoundLit of braces) = true
  is_operation_lvalue v (Unary op operand) = is_deref op
  is_operation_lvalue v _ = false

-- a member of the structure or union of this number, where that is complete (6.3.2.3)
abbrev pub member_in : Scopes → Place → Token → ℕ → Result CType Fault
member_in w p name n = cond (is_among n w.complete) (if_there (member_of n name.name w.members) (Err (NoField p name.name)) (λ m. Ok m.ty)) (Err (NotStruct p))

abbrev pub member : Scopes → Place → Token → CType → Result CType Fault
member w p name (Struct n) = member_in w p name n
member w p name (Union n) = member_in w p name n
member w p name _ = Err (NotStruct p)

-- the type of an operand that has to be an lvalue
abbrev pub if_lvalue : Scopes → Place → Node → CType → Result CType Fault
if_lvalue v p e t = cond (is_lvalue v e) (Ok t) (Err (NotLvalue p))

abbrev pub address : Scopes → Place → Node → CType → Result CType Fault
address v p e t = cond (is_function t || is_lvalue v e) (Ok (Pointer t)) (Err (NotLvalue p))

-- operators with one operand (6.3.2.4, 6.3.3)
abbrev pub unary_row : Scopes → Place → UnaryOp → Node → CType → Result CType Fault
unary_row v p unary.PostInc e t = if_lvalue v p e t
unary_row v p unary.PostDec e t = if_lvalue v p e t
unary_row v p unary.PreInc e t = if_lvalue v p e t
unary_row v p unary.PreDec e t = if_lvalue v p e t
unary_row v p unary.AddressOf e t = address v p e t
unary_row v p unary.Deref e t = or_fault (pointed t) (NotPointer p)
unary_row v p unary.Plus e t = Ok (promoted t)
unary_row v p unary.Minus e t = Ok (promoted t)
unary_row v p unary.BitNot e t = Ok (promoted t)
unary_row v p unary.Not e t = Ok int
unary_row v p unary.Sizeof e t = Ok size

-- primary expressions (6.3.1)
abbrev pub primary_row : Scopes → Role → Place → PrimaryShape → List CType → Result CType Fault
primary_row v r p (Ident name) ts = identifier v r p name
primary_row v r p (Constant token) ts = Ok (constant_type token.kind)
primary_row v r p (StrConst literals) ts = Ok (string_type literals)
primary_row v r p (Paren inner) ts = Ok (first ts)
primary_row v r p (VaArg list of) ts = Ok (second ts)
primary_row v r p (Offsetof of member path) ts = Ok size
primary_row v r p (Hole number) ts = Ok Void

-- Operators (6.3.2 to 6.3.17). The scopes are those before the operands and those behind them.
abbrev pub operation_row : Scopes → Scopes → Place → OperationShape → List CType → Result CType Fault
operation_row v w p (Index array index) ts = or_fault (indexed (first ts) (second ts)) (NotPointer p)
operation_row v w p (Call function paren arguments) ts = or_fault (called (first ts)) (NotFunction p)
operation_row v w p (Member operand name) ts = member w p name (first ts)
operation_row v w p (Arrow operand name) ts = or_fault (element (first ts)) (NotPointer p) >>= λ t. member w p name t
operation_row v w p (CompoundLit of braces) ts = Ok (first ts)
operation_row v w p (Unary op operand) ts = unary_row v p op operand (first ts)
operation_row v w p (SizeofType of) ts = Ok size
operation_row v w p (Cast to operand) ts = Ok (first ts)
operation_row v w p (Binary op left right) ts = Ok (combined op (first ts) (second ts))
operation_row v w p (Cond condition then otherwise) ts = Ok (chosen (second ts) (third ts))
operation_row v w p (Assign op left right) ts = if_lvalue v p left (first ts)

-- no type of its own, unless there is this fault
abbrev pub fine_unless : Option Fault → Result CType Fault
fine_unless None = Ok Void
fine_unless (Some e) = Err e

-- the first of these members whose name the structure or union has already
abbrev pub first_clash : Scopes → List held.Member → Option Fault
first_clash w [] = None
first_clash w (m ∷ ms) = cond (member_clashes w m) (Some (Redeclared m.place m.name)) (first_clash w ms)

-- a declaration of members: one without a name gives its own members to the outer structure or union
abbrev pub members_row : Scopes → Scopes → Role → Node → Nodes → Result CType Fault
members_row v w r specs no_more = fine_unless (first_clash w (inner_members w (owner_of r) (specified_type v specs)))
members_row v w r specs _ = Ok Void

-- Type names and specifiers (6.5.2, 6.5.5).
abbrev pub specifier_row : Scopes → Scopes → Role → SpecifierShape → Result CType Fault
specifier_row v w r (TypeName specs declarator) = Ok (around_maybe declarator (specified_type v specs))
specifier_row v w r (StructTag which tag) = fine_unless (tag_fault w (mention r) (sort_of which) tag)
specifier_row v w r (EnumTag tag) = fine_unless (tag_fault w (mention r) Enums tag)
specifier_row v w r (StructDeclaration specs declarators) = members_row v w r specs declarators
specifier_row v w r _ = Ok Void

-- the place of a declared name
abbrev pub name_place : Place → DeclaratorShape → Place
name_place p d = if_there (name_of_shape d) p (λ name. name.place)

abbrev pub name_row : Scopes → Place → Entry → Result CType Fault
name_row w p k = cond (clashes w k) (Err (Redeclared p k.name)) (Ok k.ty)

abbrev pub member_row : Scopes → held.Member → Result CType Fault
member_row w m = cond (member_clashes w m) (Err (Redeclared m.place m.name)) (Ok m.ty)

-- The declarator of a name or member: the type of that, unless it may not be declared here.
abbrev pub declarator_row : Scopes → Role → Place → DeclaratorShape → Result CType Fault
declarator_row w r p d = if_there (declares w r d) (if_there (declares_member r d) (Ok Void) (member_row w)) (name_row w (name_place p d))

abbrev pub part_row : Scopes → PartShape → Result CType Fault
part_row w (Enumerator name value) = name_row w name.place (enumerator w name)
part_row w _ = Ok Void

-- an initialized declarator has the type of its name
abbrev pub initializer_row : InitializerShape → List CType → Result CType Fault
initializer_row (Init name declarator initial) ts = Ok (second ts)
initializer_row _ ts = Ok Void

-- THE ROW of a node at the place p, in this role, under the scopes before its parts and behind them. A node that is no
-- expression, type name or declarator has no type; Void stands for it.
abbrev pub row : Scopes → Scopes → Role → Place → Shape → List CType → Result CType Fault
row v w r p (Primary k) ts = primary_row v r p k ts
row v w r p (Operation k) ts = operation_row v w p k ts
row v w r p (Initializer k) ts = initializer_row k ts
row v w r p (Specifier k) ts = specifier_row v w r k
row v w r p (Declarator d) ts = declarator_row w r p d
row v w r p (Part k) ts = part_row w k
row v w r p _ ts = Ok Void

-- The fault at the beginning of a node: a tag that may not have a body here.
abbrev pub entry_fault : Scopes → Shape → Option Fault
entry_fault v (Specifier (StructBody which tag members)) = body_fault v (sort_of which) tag
entry_fault v (Specifier (EnumBody tag enumerators comma)) = body_fault v Enums tag
entry_fault v _ = None

-- The nodes whose type is kept: expressions, type names, and declarators that declare a name in their role.
abbrev pub keeps_initializer : InitializerShape → Bool
keeps_initializer (Init name declarator initial) = true
keeps_initializer _ = false

abbrev pub keeps_specifier : SpecifierShape → Bool
keeps_specifier (TypeName specs declarator) = true
keeps_specifier _ = false

abbrev pub keeps : Scopes → Role → Shape → Bool
keeps w r (Primary k) = true
keeps w r (Operation k) = true
keeps w r (Initializer k) = keeps_initializer k
keeps w r (Specifier k) = keeps_specifier k
keeps w r (Declarator d) = is_some (declares w r d)
keeps w r _ = false

-- The variable behind a node: an identifier, or a declarator that declares one.
abbrev pub var_of : Scopes → Scopes → Role → Shape → Option CVar
var_of v w r (Primary (Ident name)) = variable_of v name.name
var_of v w r (Declarator d) = declares w r d >? λ k. cond (is_object k) k.var None
var_of v w r _ = None
