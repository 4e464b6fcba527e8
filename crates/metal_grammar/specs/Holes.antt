-- The types of holes as they are written, the names that a text declares as holes, and where in an expression each may stand.
use Rattle.std.specs.Prelude.{ℕ, zero, suc, Bool, true, false, cond, nat_eq, ◌&&◌, List, [], ◌∷◌, map, Option, None, Some}
use Rattle.c_tree.specs.Tables.{find_text}
use Rattle.c_tree.specs.Symbol.{Symbol, Word}
use Rattle.c_tree.specs.Syntax.{Syntax, Primary, Operation, Initializer, Part, PrimarySyntax, OperationSyntax, InitializerSyntax, Ident, Paren, VaArg, Offsetof, Index, Call, Member, Arrow, CompoundLit, Unary, Cast, Binary, Cond, Assign, Braces, Designated, IndexDesignator, Syntaxes, no_more, more}
use Rattle.metal_tree.specs.MetalMachines.Machine.{NamedType, Basic, Tag, Pointer, HoleType, AnyExpr, AnyScalar, AnyPointer, AnyArguments, AnyFnCall, Named}
use Rattle.metal_grammar.specs.Words.{Spelling, spelled}
use Rattle.metal_grammar.specs.Written.{members, WrittenType, KindOfHole, BasicType, TagType, Declaration}
use Rattle.std.specs.Prelude.{codes, is_some}

abbrev pub pointers : ℕ → NamedType → NamedType
pointers zero t = t
pointers (suc n) t = Pointer (pointers n t)

-- the kinds of holes that have a word of the language
abbrev pub kinds_of_holes : List (List ℕ × HoleType)
kinds_of_holes =
    (codes "any_expr", AnyExpr)
    ∷ (codes "any_scalar", AnyScalar)
    ∷ (codes "any_pointer", AnyPointer)
    ∷ (codes "any_arguments", AnyArguments)
    ∷ (codes "any_fn_call", AnyFnCall)
    ∷ []

abbrev pub kind_of_hole : Spelling → ℕ → Option HoleType
kind_of_hole spelling name = find_text (spelled spelling name) kinds_of_holes

abbrev pub hole_type : Spelling → WrittenType → Option HoleType
hole_type spelling (KindOfHole name) = kind_of_hole spelling name
hole_type spelling (BasicType words n) = Some (Named (pointers n (Basic words)))
hole_type spelling (TagType which tag n) = Some (Named (pointers n (Tag which tag)))

pub record DeclaredHole : Type 0 where
  pub name : ℕ
  pub of : HoleType
  pub is_state : Bool

abbrev pub holes_as : Bool → Option HoleType → List ℕ → List DeclaredHole
holes_as is_state None names = []
holes_as is_state (Some t) names = map (λ name. record { name = name; of = t; is_state = is_state }) names

-- the holes of a declaration, in the order of the text
abbrev pub declared_holes : Spelling → Declaration → List DeclaredHole
declared_holes spelling d = holes_as (is_some d.state) (hole_type spelling d.type) (members d.names)

-- the type of the hole with this name, if it is one; the first declaration counts
abbrev pub type_of_hole : List DeclaredHole → ℕ → Option HoleType
type_of_hole [] name = None
type_of_hole (h ∷ hs) name = cond (nat_eq h.name name) (Some h.of) (type_of_hole hs name)

-- Where in an expression a name stands.
pub data Position : Type 0 where
  Operand : Position
  Callee : Position
  LastArgument : Position

-- A hole for a function stands as a callee and no other hole does; a hole for arguments stands last in a list of them.
abbrev pub may_stand : Position → Option HoleType → Bool
may_stand position None = true
may_stand Callee (Some AnyFnCall) = true
may_stand Callee (Some t) = false
may_stand position (Some AnyFnCall) = false
may_stand LastArgument (Some AnyArguments) = true
may_stand position (Some AnyArguments) = false
may_stand position (Some t) = true

abbrev pub name_may_stand : List DeclaredHole → Position → Symbol → Bool
name_may_stand holes position (Word name) = may_stand position (type_of_hole holes name)
name_may_stand holes position _ = true

-- Each hole in an expression stands where it may. Parentheses are seen through.
abbrev mutual
  pub are_placed : List DeclaredHole → Position → Syntax → Bool
  are_placed holes position (Primary k) = are_placed_in_primary holes position k
  are_placed holes position (Operation k) = are_placed_in_operation holes k
  are_placed holes position (Initializer k) = are_placed_in_initializer holes k
  are_placed holes position _ = true

  pub are_placed_in_primary : List DeclaredHole → Position → PrimarySyntax → Bool
  are_placed_in_primary holes position (Ident name) = name_may_stand holes position name
  are_placed_in_primary holes position (Paren inner) = are_placed holes position inner
  are_placed_in_primary holes position (VaArg list of) = are_placed holes Operand list
  are_placed_in_primary holes position (Offsetof of member path) = are_placed_in_path holes path
  are_placed_in_primary holes position _ = true

  pub are_placed_in_operation : List DeclaredHole → OperationSyntax → Bool
  are_placed_in_operation holes (Index array index) = are_placed holes Operand array && are_placed holes Operand index
  are_placed_in_operation holes (Call callee arguments) = are_placed holes Callee callee && are_placed_in_arguments holes arguments
  are_placed_in_operation holes (Member operand member) = are_placed holes Operand operand
  are_placed_in_operation holes (Arrow operand member) = are_placed holes Operand operand
  are_placed_in_operation holes (CompoundLit of braces) = are_placed holes Operand braces
  are_placed_in_operation holes (Unary op operand) = are_placed holes Operand operand
  are_placed_in_operation holes (Cast to operand) = are_placed holes Operand operand
  are_placed_in_operation holes (Binary op left right) = are_placed holes Operand left && are_placed holes Operand right
  are_placed_in_operation holes (Cond condition then otherwise) = are_placed holes Operand condition && are_placed holes Operand then && are_placed holes Operand otherwise
  are_placed_in_operation holes (Assign op left right) = are_placed holes Operand left && are_placed holes Operand right
  are_placed_in_operation holes _ = true

  pub are_placed_in_initializer : List DeclaredHole → InitializerSyntax → Bool
  are_placed_in_initializer holes (Braces elements comma) = are_placed_in_elements holes elements
  are_placed_in_initializer holes (Designated designators initial) = are_placed_in_path holes designators && are_placed holes Operand initial
  are_placed_in_initializer holes _ = true

  pub are_placed_in_elements : List DeclaredHole → Syntaxes → Bool
  are_placed_in_elements holes no_more = true
  are_placed_in_elements holes (more e es) = are_placed holes Operand e && are_placed_in_elements holes es

  pub are_placed_in_arguments : List DeclaredHole → Syntaxes → Bool
  are_placed_in_arguments holes no_more = true
  are_placed_in_arguments holes (more e no_more) = are_placed holes LastArgument e
  are_placed_in_arguments holes (more e (more f es)) = are_placed holes Operand e && are_placed_in_arguments holes (more f es)

  pub are_placed_in_path : List DeclaredHole → Syntaxes → Bool
  are_placed_in_path holes no_more = true
  are_placed_in_path holes (more e es) = are_placed_in_designator holes e && are_placed_in_path holes es

  pub are_placed_in_designator : List DeclaredHole → Syntax → Bool
  are_placed_in_designator holes (Part (IndexDesignator index)) = are_placed holes Operand index
  are_placed_in_designator holes _ = true
