-- Where a node stands: its line of the grammar, with the tokens that the tree keeps and the places and numbers of its nodes.
use Rattle.std.specs.Prelude.{ℕ, Bool, true, false, List, Option, Some, None}
use Rattle.c_tree.specs.declared.keyword.Keyword.{Keyword}
use Rattle.c_tree.specs.declared.keyword.Keyword.TheVariants as words
use Rattle.c_tree.specs.declared.punctuator.Punctuator.{Punctuator}
use Rattle.c_tree.specs.declared.punctuator.Punctuator.TheVariants as marks
use Rattle.c_tree.specs.declared.operator.UnaryOp.{UnaryOp}
use Rattle.c_tree.specs.declared.operator.UnaryOp.TheVariants as unary
use Rattle.c_tree.specs.declared.place.Place.{Place}
use Rattle.c_tree.specs.declared.token.Token.{Token}
use Rattle.c_tree.specs.Symbol.{Symbol, Reserved, Sign}
use Rattle.c_tree.specs.Tokens.{binary_sign, assign_sign, word_of}
use Rattle.c_tree.specs.Node.{Node, node, Shape, Primary, Operation, Initializer, Specifier, Declarator, Part, Outer, Statement, Iteration, Jump, PrimaryShape, OperationShape, InitializerShape, SpecifierShape, DeclaratorShape, PartShape, OuterShape, StatementShape, IterationShape, JumpShape, Ident, Constant, StrConst, Paren, VaArg, Offsetof, Hole, Index, Call, Member, Arrow, CompoundLit, Unary, SizeofType, Cast, Binary, Cond, Assign, Init, Braces, Designated, TypeName, Specs, StructTag, StructBody, EnumTag, EnumBody, StructDeclaration, BitField, Param, Named, Nested, Unnamed, SpecWord, ArrayBound, VoidParams, Params, Enumerator, MemberDesignator, IndexDesignator, Declaration, Function, Empty, Block, ExprStmt, If, Switch, Case, Default, Label, While, Do, For, ForDeclaration, Goto, Continue, Break, Return, MaybeNode, absent, present, Nodes, no_more, more}

infixl 30 ◌⨾◌
pub data Line : Type 0 where
  nothing : Line
  -- a token that the tree keeps
  kept : Token → Line
  all_kept : List Token → Line
  -- a token that it doesn't keep, of which the symbol is known
  fixed : Symbol → Line
  -- the token that comes next stands at this place
  at : Place → Line
  -- a node with this number ends
  numbered : ℕ → Line
  -- a node that is the identifier of this declared token, which stands elsewhere
  names : Option Token → Node → Line
  ◌⨾◌ : Line → Line → Line

abbrev pub keyword : Keyword → Line
keyword k = fixed (Reserved k)

abbrev pub sign : Punctuator → Line
sign p = fixed (Sign p)

abbrev pub unary_line : UnaryOp → Line → Line
unary_line unary.PostInc operand = operand ⨾ sign marks.Increment
unary_line unary.PostDec operand = operand ⨾ sign marks.Decrement
unary_line unary.PreInc operand = sign marks.Increment ⨾ operand
unary_line unary.PreDec operand = sign marks.Decrement ⨾ operand
unary_line unary.AddressOf operand = sign marks.Ampersand ⨾ operand
unary_line unary.Deref operand = sign marks.Star ⨾ operand
unary_line unary.Plus operand = sign marks.Plus ⨾ operand
unary_line unary.Minus operand = sign marks.Minus ⨾ operand
unary_line unary.BitNot operand = sign marks.Tilde ⨾ operand
unary_line unary.Not operand = sign marks.Exclamation ⨾ operand
unary_line unary.Sizeof operand = keyword words.Sizeof ⨾ operand

abbrev pub comma_if : Bool → Line
comma_if true = sign marks.Comma
comma_if false = nothing

abbrev pub ellipsis_if : Bool → Line
ellipsis_if true = sign marks.Comma ⨾ sign marks.Ellipsis
ellipsis_if false = nothing

abbrev pub tag_if : Option Token → Line
tag_if (Some t) = kept t
tag_if None = nothing

-- the token that a declarator declares, if it isn't abstract
abbrev mutual
  pub declared_token : Node → Option Token
  declared_token (node id first (Declarator k)) = declarator_token k
  declared_token _ = None

  pub declarator_token : DeclaratorShape → Option Token
  declarator_token (Named pointers name suffixes) = Some name
  declarator_token (Nested pointers inner suffixes) = declared_token inner
  declarator_token (Unnamed pointers suffixes) = None

abbrev mutual
  pub line_of : Node → Line
  line_of (node id first shape) = at first ⨾ shape_line shape ⨾ numbered id

  pub shape_line : Shape → Line
  shape_line (Primary k) = primary_line k
  shape_line (Operation k) = operation_line k
  shape_line (Initializer k) = initializer_line k
  shape_line (Specifier k) = specifier_line k
  shape_line (Declarator k) = declarator_line k
  shape_line (Part k) = part_line k
  shape_line (Outer k) = outer_line k
  shape_line (Statement k) = statement_line k
  shape_line (Iteration k) = iteration_line k
  shape_line (Jump k) = jump_line k

  pub primary_line : PrimaryShape → Line
  primary_line (Ident name) = kept name
  primary_line (Constant token) = kept token
  primary_line (StrConst literals) = all_kept literals
  primary_line (Paren inner) = sign marks.OpenParen ⨾ line_of inner ⨾ sign marks.CloseParen
  primary_line (VaArg list of) = keyword words.BuiltinVaArg ⨾ sign marks.OpenParen ⨾ line_of list ⨾ sign marks.Comma ⨾ line_of of ⨾ sign marks.CloseParen
  primary_line (Offsetof of member path) = keyword words.BuiltinOffsetof ⨾ sign marks.OpenParen ⨾ line_of of ⨾ sign marks.Comma ⨾ kept member ⨾ row_line path ⨾ sign marks.CloseParen
  primary_line (Hole _) = nothing

  pub operation_line : OperationShape → Line
  operation_line (Index array index) = line_of array ⨾ sign marks.OpenBracket ⨾ line_of index ⨾ sign marks.CloseBracket
  operation_line (Call callee parenthesis arguments) = line_of callee ⨾ at parenthesis ⨾ sign marks.OpenParen ⨾ list_line arguments ⨾ sign marks.CloseParen
  operation_line (Member operand member) = line_of operand ⨾ sign marks.Dot ⨾ kept member
  operation_line (Arrow operand member) = line_of operand ⨾ sign marks.Arrow ⨾ kept member
  operation_line (CompoundLit of braces) = sign marks.OpenParen ⨾ line_of of ⨾ sign marks.CloseParen ⨾ line_of braces
  operation_line (Unary op operand) = unary_line op (line_of operand)
  operation_line (SizeofType of) = keyword words.Sizeof ⨾ sign marks.OpenParen ⨾ line_of of ⨾ sign marks.CloseParen
  operation_line (Cast to operand) = sign marks.OpenParen ⨾ line_of to ⨾ sign marks.CloseParen ⨾ line_of operand
  operation_line (Binary op left right) = line_of left ⨾ sign (binary_sign op) ⨾ line_of right
  operation_line (Cond condition then otherwise) = line_of condition ⨾ sign marks.Question ⨾ line_of then ⨾ sign marks.Colon ⨾ line_of otherwise
  operation_line (Assign op left right) = line_of left ⨾ sign (assign_sign op) ⨾ line_of right

  pub initializer_line : InitializerShape → Line
  initializer_line (Init name declarator initial) = line_of declarator ⨾ names (declared_token declarator) name ⨾ sign marks.Assign ⨾ line_of initial
  initializer_line (Braces elements comma) = sign marks.OpenBrace ⨾ list_line elements ⨾ comma_if comma ⨾ sign marks.CloseBrace
  initializer_line (Designated designators initial) = row_line designators ⨾ sign marks.Assign ⨾ line_of initial

  pub specifier_line : SpecifierShape → Line
  specifier_line (TypeName specs declarator) = line_of specs ⨾ maybe_line declarator
  specifier_line (Specs items) = row_line items
  specifier_line (StructTag which tag) = keyword (word_of which) ⨾ kept tag
  specifier_line (StructBody which tag members) = keyword (word_of which) ⨾ tag_if tag ⨾ sign marks.OpenBrace ⨾ row_line members ⨾ sign marks.CloseBrace
  specifier_line (EnumTag tag) = keyword words.Enum ⨾ kept tag
  specifier_line (EnumBody tag enumerators comma) = keyword words.Enum ⨾ tag_if tag ⨾ sign marks.OpenBrace ⨾ list_line enumerators ⨾ comma_if comma ⨾ sign marks.CloseBrace
  specifier_line (StructDeclaration specs declarators) = line_of specs ⨾ list_line declarators ⨾ sign marks.Semicolon
  specifier_line (BitField declarator width) = maybe_line declarator ⨾ sign marks.Colon ⨾ line_of width
  specifier_line (Param specs declarator) = line_of specs ⨾ maybe_line declarator

  pub declarator_line : DeclaratorShape → Line
  declarator_line (Named pointers name suffixes) = all_kept pointers ⨾ kept name ⨾ row_line suffixes
  declarator_line (Nested pointers inner suffixes) = all_kept pointers ⨾ sign marks.OpenParen ⨾ line_of inner ⨾ sign marks.CloseParen ⨾ row_line suffixes
  declarator_line (Unnamed pointers suffixes) = all_kept pointers ⨾ row_line suffixes

  pub part_line : PartShape → Line
  part_line (SpecWord word) = kept word
  part_line (ArrayBound words bound) = sign marks.OpenBracket ⨾ all_kept words ⨾ maybe_line bound ⨾ sign marks.CloseBracket
  part_line VoidParams = sign marks.OpenParen ⨾ keyword words.Void ⨾ sign marks.CloseParen
  part_line (Params params variadic) = sign marks.OpenParen ⨾ list_line params ⨾ ellipsis_if variadic ⨾ sign marks.CloseParen
  part_line (Enumerator name value) = kept name ⨾ assigned_line value
  part_line (MemberDesignator member) = sign marks.Dot ⨾ kept member
  part_line (IndexDesignator index) = sign marks.OpenBracket ⨾ line_of index ⨾ sign marks.CloseBracket

  pub outer_line : OuterShape → Line
  outer_line (Declaration specs declarators) = line_of specs ⨾ list_line declarators ⨾ sign marks.Semicolon
  outer_line (Function specs declarator body) = line_of specs ⨾ line_of declarator ⨾ line_of body
  outer_line Empty = sign marks.Semicolon

  pub statement_line : StatementShape → Line
  statement_line (Block items) = sign marks.OpenBrace ⨾ row_line items ⨾ sign marks.CloseBrace
  statement_line (ExprStmt value) = maybe_line value ⨾ sign marks.Semicolon
  statement_line (If condition then otherwise) = keyword words.If ⨾ sign marks.OpenParen ⨾ line_of condition ⨾ sign marks.CloseParen ⨾ line_of then ⨾ else_line otherwise
  statement_line (Switch value body) = keyword words.Switch ⨾ sign marks.OpenParen ⨾ line_of value ⨾ sign marks.CloseParen ⨾ line_of body
  statement_line (Case value body) = keyword words.Case ⨾ line_of value ⨾ sign marks.Colon ⨾ line_of body
  statement_line (Default body) = keyword words.Default ⨾ sign marks.Colon ⨾ line_of body
  statement_line (Label label body) = kept label ⨾ sign marks.Colon ⨾ line_of body

  pub iteration_line : IterationShape → Line
  iteration_line (While condition body) = keyword words.While ⨾ sign marks.OpenParen ⨾ line_of condition ⨾ sign marks.CloseParen ⨾ line_of body
  iteration_line (Do body condition) = keyword words.Do ⨾ line_of body ⨾ keyword words.While ⨾ sign marks.OpenParen ⨾ line_of condition ⨾ sign marks.CloseParen ⨾ sign marks.Semicolon
  iteration_line (For first condition step body) = keyword words.For ⨾ sign marks.OpenParen ⨾ maybe_line first ⨾ sign marks.Semicolon ⨾ maybe_line condition ⨾ sign marks.Semicolon ⨾ maybe_line step ⨾ sign marks.CloseParen ⨾ line_of body
  iteration_line (ForDeclaration declaration condition step body) = keyword words.For ⨾ sign marks.OpenParen ⨾ line_of declaration ⨾ maybe_line condition ⨾ sign marks.Semicolon ⨾ maybe_line step ⨾ sign marks.CloseParen ⨾ line_of body

  pub jump_line : JumpShape → Line
  jump_line (Goto label) = keyword words.Goto ⨾ kept label ⨾ sign marks.Semicolon
  jump_line Continue = keyword words.Continue ⨾ sign marks.Semicolon
  jump_line Break = keyword words.Break ⨾ sign marks.Semicolon
  jump_line (Return value) = keyword words.Return ⨾ maybe_line value ⨾ sign marks.Semicolon

  pub maybe_line : MaybeNode → Line
  maybe_line absent = nothing
  maybe_line (present e) = line_of e

  pub assigned_line : MaybeNode → Line
  assigned_line absent = nothing
  assigned_line (present e) = sign marks.Assign ⨾ line_of e

  pub else_line : MaybeNode → Line
  else_line absent = nothing
  else_line (present e) = keyword words.Else ⨾ line_of e

  -- one after the other
  pub row_line : Nodes → Line
  row_line no_more = nothing
  row_line (more e es) = line_of e ⨾ row_line es

  -- with commas between
  pub list_line : Nodes → Line
  list_line no_more = nothing
  list_line (more e es) = line_of e ⨾ more_line es

  -- with a comma before each
  pub more_line : Nodes → Line
  more_line no_more = nothing
  more_line (more e es) = sign marks.Comma ⨾ line_of e ⨾ more_line es
