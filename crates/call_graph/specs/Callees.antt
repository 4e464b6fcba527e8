-- That a name stands in callee position in a tree: it is called there, at any depth. Parentheses around it are seen through.
use Rattle.std.specs.Prelude.{ℕ, Bool, false, ◌||◌, nat_eq}
use Rattle.c_tree.specs.Symbol.{Symbol, Word}
use Rattle.c_tree.specs.Syntax.{Syntax, Primary, Operation, Initializer, Specifier, Declarator, Part, PrimarySyntax, OperationSyntax, InitializerSyntax, SpecifierSyntax, DeclaratorSyntax, PartSyntax, Ident, Paren, VaArg, Offsetof, Index, Call, Member, Arrow, CompoundLit, Unary, SizeofType, Cast, Binary, Cond, Assign, Init, Braces, Designated, TypeName, Specs, StructBody, EnumBody, StructDeclaration, BitField, Param, Named, Nested, Unnamed, ArrayBound, Params, Enumerator, IndexDesignator, MaybeSyntax, absent, present, Syntaxes, no_more, more}

abbrev pub is_word : ℕ → Symbol → Bool
is_word name (Word n) = nat_eq n name
is_word name _ = false

-- the name by itself, or in parentheses
abbrev mutual
  pub is_name : ℕ → Syntax → Bool
  is_name name (Primary k) = is_name_in name k
  is_name name _ = false

  pub is_name_in : ℕ → PrimarySyntax → Bool
  is_name_in name (Ident s) = is_word name s
  is_name_in name (Paren inner) = is_name name inner
  is_name_in name _ = false

-- No definition and no statement stands in an expression.
abbrev mutual
  pub calls : ℕ → Syntax → Bool
  calls name (Primary k) = calls_in_primary name k
  calls name (Operation k) = calls_in_operation name k
  calls name (Initializer k) = calls_in_initializer name k
  calls name (Specifier k) = calls_in_specifier name k
  calls name (Declarator k) = calls_in_declarator name k
  calls name (Part k) = calls_in_part name k
  calls name _ = false

  pub calls_in_primary : ℕ → PrimarySyntax → Bool
  calls_in_primary name (Paren inner) = calls name inner
  calls_in_primary name (VaArg list of) = calls name list || calls name of
  calls_in_primary name (Offsetof of member path) = calls name of || any_calls name path
  calls_in_primary name _ = false

  pub calls_in_operation : ℕ → OperationSyntax → Bool
  calls_in_operation name (Index array index) = calls name array || calls name index
  calls_in_operation name (Call callee arguments) = is_name name callee || (calls name callee || any_calls name arguments)
  calls_in_operation name (Member operand member) = calls name operand
  calls_in_operation name (Arrow operand member) = calls name operand
  calls_in_operation name (CompoundLit of braces) = calls name of || calls name braces
  calls_in_operation name (Unary op operand) = calls name operand
  calls_in_operation name (SizeofType of) = calls name of
  calls_in_operation name (Cast to operand) = calls name to || calls name operand
  calls_in_operation name (Binary op left right) = calls name left || calls name right
  calls_in_operation name (Cond condition then otherwise) = calls name condition || (calls name then || calls name otherwise)
  calls_in_operation name (Assign op left right) = calls name left || calls name right

  pub calls_in_initializer : ℕ → InitializerSyntax → Bool
  calls_in_initializer name (Init declared declarator initial) = calls name declared || (calls name declarator || calls name initial)
  calls_in_initializer name (Braces elements comma) = any_calls name elements
  calls_in_initializer name (Designated designators initial) = any_calls name designators || calls name initial

  pub calls_in_specifier : ℕ → SpecifierSyntax → Bool
  calls_in_specifier name (TypeName specs declarator) = calls name specs || calls_maybe name declarator
  calls_in_specifier name (Specs items) = any_calls name items
  calls_in_specifier name (StructBody which tag members) = any_calls name members
  calls_in_specifier name (EnumBody tag enumerators comma) = any_calls name enumerators
  calls_in_specifier name (StructDeclaration specs declarators) = calls name specs || any_calls name declarators
  calls_in_specifier name (BitField declarator width) = calls_maybe name declarator || calls name width
  calls_in_specifier name (Param specs declarator) = calls name specs || calls_maybe name declarator
  calls_in_specifier name _ = false

  pub calls_in_declarator : ℕ → DeclaratorSyntax → Bool
  calls_in_declarator name (Named pointers declared suffixes) = any_calls name suffixes
  calls_in_declarator name (Nested pointers inner suffixes) = calls name inner || any_calls name suffixes
  calls_in_declarator name (Unnamed pointers suffixes) = any_calls name suffixes

  pub calls_in_part : ℕ → PartSyntax → Bool
  calls_in_part name (ArrayBound words bound) = calls_maybe name bound
  calls_in_part name (Params params variadic) = any_calls name params
  calls_in_part name (Enumerator declared value) = calls_maybe name value
  calls_in_part name (IndexDesignator index) = calls name index
  calls_in_part name _ = false

  pub calls_maybe : ℕ → MaybeSyntax → Bool
  calls_maybe name absent = false
  calls_maybe name (present e) = calls name e

  pub any_calls : ℕ → Syntaxes → Bool
  any_calls name no_more = false
  any_calls name (more e es) = calls name e || any_calls name es
