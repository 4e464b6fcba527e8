-- The tokens of a tree: those of its line of the grammar.
use Rattle.std.specs.Prelude.{Bool, true, false, List, [], Option, Some, None}
use Rattle.c_tree.specs.declared.keyword.Keyword.{Keyword}
use Rattle.c_tree.specs.declared.keyword.Keyword.TheVariants as words
use Rattle.c_tree.specs.declared.punctuator.Punctuator.{Punctuator}
use Rattle.c_tree.specs.declared.punctuator.Punctuator.TheVariants as marks
use Rattle.c_tree.specs.declared.operator.BinaryOp.{BinaryOp}
use Rattle.c_tree.specs.declared.operator.BinaryOp.TheVariants as binary
use Rattle.c_tree.specs.declared.operator.AssignOp.{AssignOp}
use Rattle.c_tree.specs.declared.operator.AssignOp.TheVariants as assign
use Rattle.c_tree.specs.declared.operator.UnaryOp.{UnaryOp}
use Rattle.c_tree.specs.declared.operator.UnaryOp.TheVariants as unary
use Rattle.c_tree.specs.declared.operator.StructOrUnion.{StructOrUnion}
use Rattle.c_tree.specs.declared.operator.StructOrUnion.TheVariants as which_word
use Rattle.c_tree.specs.Symbol.{Symbol}
use Rattle.c_tree.specs.Phrase.{Phrase, nothing, one, all, ◌⨾◌, phrase_then, sign, keyword}
use Rattle.c_tree.specs.Syntax.{Syntax, Primary, Operation, Initializer, Specifier, Declarator, Part, Outer, Statement, Iteration, Jump, PrimarySyntax, OperationSyntax, InitializerSyntax, SpecifierSyntax, DeclaratorSyntax, PartSyntax, OuterSyntax, StatementSyntax, IterationSyntax, JumpSyntax, Ident, Constant, StrConst, Paren, VaArg, Offsetof, Hole, Index, Call, Member, Arrow, CompoundLit, Unary, SizeofType, Cast, Binary, Cond, Assign, Init, Braces, Designated, TypeName, Specs, StructTag, StructBody, EnumTag, EnumBody, StructDeclaration, BitField, Param, Named, Nested, Unnamed, SpecWord, ArrayBound, VoidParams, Params, Enumerator, MemberDesignator, IndexDesignator, Declaration, Function, Empty, Block, ExprStmt, If, Switch, Case, Default, Label, While, Do, For, ForDeclaration, Goto, Continue, Break, Return, MaybeSyntax, absent, present, Syntaxes, no_more, more}

-- an operator and its operand
abbrev pub unary_phrase : UnaryOp → Phrase → Phrase
unary_phrase unary.PostInc operand = operand ⨾ sign marks.Increment
unary_phrase unary.PostDec operand = operand ⨾ sign marks.Decrement
unary_phrase unary.PreInc operand = sign marks.Increment ⨾ operand
unary_phrase unary.PreDec operand = sign marks.Decrement ⨾ operand
unary_phrase unary.AddressOf operand = sign marks.Ampersand ⨾ operand
unary_phrase unary.Deref operand = sign marks.Star ⨾ operand
unary_phrase unary.Plus operand = sign marks.Plus ⨾ operand
unary_phrase unary.Minus operand = sign marks.Minus ⨾ operand
unary_phrase unary.BitNot operand = sign marks.Tilde ⨾ operand
unary_phrase unary.Not operand = sign marks.Exclamation ⨾ operand
unary_phrase unary.Sizeof operand = keyword words.Sizeof ⨾ operand

abbrev pub binary_sign : BinaryOp → Punctuator
binary_sign binary.Multiply = marks.Star
binary_sign binary.Divide = marks.Slash
binary_sign binary.Remainder = marks.Percent
binary_sign binary.Add = marks.Plus
binary_sign binary.Subtract = marks.Minus
binary_sign binary.ShiftLeft = marks.ShiftLeft
binary_sign binary.ShiftRight = marks.ShiftRight
binary_sign binary.Less = marks.Less
binary_sign binary.Greater = marks.Greater
binary_sign binary.LessEqual = marks.LessEqual
binary_sign binary.GreaterEqual = marks.GreaterEqual
binary_sign binary.Equal = marks.Equal
binary_sign binary.NotEqual = marks.NotEqual
binary_sign binary.BitAnd = marks.Ampersand
binary_sign binary.BitXor = marks.Caret
binary_sign binary.BitOr = marks.Bar
binary_sign binary.LogAnd = marks.AndAnd
binary_sign binary.LogOr = marks.OrOr
binary_sign binary.Comma = marks.Comma

abbrev pub assign_sign : AssignOp → Punctuator
assign_sign assign.Plain = marks.Assign
assign_sign assign.Multiply = marks.StarAssign
assign_sign assign.Divide = marks.SlashAssign
assign_sign assign.Remainder = marks.PercentAssign
assign_sign assign.Add = marks.PlusAssign
assign_sign assign.Subtract = marks.MinusAssign
assign_sign assign.ShiftLeft = marks.ShiftLeftAssign
assign_sign assign.ShiftRight = marks.ShiftRightAssign
assign_sign assign.BitAnd = marks.AmpersandAssign
assign_sign assign.BitXor = marks.CaretAssign
assign_sign assign.BitOr = marks.BarAssign

abbrev pub word_of : StructOrUnion → Keyword
word_of which_word.Struct = words.Struct
word_of which_word.Union = words.Union

abbrev pub comma_if : Bool → Phrase
comma_if true = sign marks.Comma
comma_if false = nothing

abbrev pub ellipsis_if : Bool → Phrase
ellipsis_if true = sign marks.Comma ⨾ sign marks.Ellipsis
ellipsis_if false = nothing

abbrev pub tag_if : Option Symbol → Phrase
tag_if (Some s) = one s
tag_if None = nothing

abbrev mutual
  pub phrase_of : Syntax → Phrase
  phrase_of (Primary k) = primary_phrase k
  phrase_of (Operation k) = operation_phrase k
  phrase_of (Initializer k) = initializer_phrase k
  phrase_of (Specifier k) = specifier_phrase k
  phrase_of (Declarator k) = declarator_phrase k
  phrase_of (Part k) = part_phrase k
  phrase_of (Outer k) = outer_phrase k
  phrase_of (Statement k) = statement_phrase k
  phrase_of (Iteration k) = iteration_phrase k
  phrase_of (Jump k) = jump_phrase k

  pub primary_phrase : PrimarySyntax → Phrase
  primary_phrase (Ident name) = one name
  primary_phrase (Constant token) = one token
  primary_phrase (StrConst literals) = all literals
  primary_phrase (Paren inner) = sign marks.OpenParen ⨾ phrase_of inner ⨾ sign marks.CloseParen
  primary_phrase (VaArg list of) = keyword words.BuiltinVaArg ⨾ sign marks.OpenParen ⨾ phrase_of list ⨾ sign marks.Comma ⨾ phrase_of of ⨾ sign marks.CloseParen
  primary_phrase (Offsetof of member path) = keyword words.BuiltinOffsetof ⨾ sign marks.OpenParen ⨾ phrase_of of ⨾ sign marks.Comma ⨾ one member ⨾ row_phrase path ⨾ sign marks.CloseParen
  primary_phrase (Hole _) = nothing

  pub operation_phrase : OperationSyntax → Phrase
  operation_phrase (Index array index) = phrase_of array ⨾ sign marks.OpenBracket ⨾ phrase_of index ⨾ sign marks.CloseBracket
  operation_phrase (Call callee arguments) = phrase_of callee ⨾ sign marks.OpenParen ⨾ list_phrase arguments ⨾ sign marks.CloseParen
  operation_phrase (Member operand member) = phrase_of operand ⨾ sign marks.Dot ⨾ one member
  operation_phrase (Arrow operand member) = phrase_of operand ⨾ sign marks.Arrow ⨾ one member
  operation_phrase (CompoundLit of braces) = sign marks.OpenParen ⨾ phrase_of of ⨾ sign marks.CloseParen ⨾ phrase_of braces
  operation_phrase (Unary op operand) = unary_phrase op (phrase_of operand)
  operation_phrase (SizeofType of) = keyword words.Sizeof ⨾ sign marks.OpenParen ⨾ phrase_of of ⨾ sign marks.CloseParen
  operation_phrase (Cast to operand) = sign marks.OpenParen ⨾ phrase_of to ⨾ sign marks.CloseParen ⨾ phrase_of operand
  operation_phrase (Binary op left right) = phrase_of left ⨾ sign (binary_sign op) ⨾ phrase_of right
  operation_phrase (Cond condition then otherwise) = phrase_of condition ⨾ sign marks.Question ⨾ phrase_of then ⨾ sign marks.Colon ⨾ phrase_of otherwise
  operation_phrase (Assign op left right) = phrase_of left ⨾ sign (assign_sign op) ⨾ phrase_of right

  pub initializer_phrase : InitializerSyntax → Phrase
  initializer_phrase (Init _ declarator initial) = phrase_of declarator ⨾ sign marks.Assign ⨾ phrase_of initial
  initializer_phrase (Braces elements comma) = sign marks.OpenBrace ⨾ list_phrase elements ⨾ comma_if comma ⨾ sign marks.CloseBrace
  initializer_phrase (Designated designators initial) = row_phrase designators ⨾ sign marks.Assign ⨾ phrase_of initial

  pub specifier_phrase : SpecifierSyntax → Phrase
  specifier_phrase (TypeName specs declarator) = phrase_of specs ⨾ maybe_phrase declarator
  specifier_phrase (Specs items) = row_phrase items
  specifier_phrase (StructTag which tag) = keyword (word_of which) ⨾ one tag
  specifier_phrase (StructBody which tag members) = keyword (word_of which) ⨾ tag_if tag ⨾ sign marks.OpenBrace ⨾ row_phrase members ⨾ sign marks.CloseBrace
  specifier_phrase (EnumTag tag) = keyword words.Enum ⨾ one tag
  specifier_phrase (EnumBody tag enumerators comma) = keyword words.Enum ⨾ tag_if tag ⨾ sign marks.OpenBrace ⨾ list_phrase enumerators ⨾ comma_if comma ⨾ sign marks.CloseBrace
  specifier_phrase (StructDeclaration specs declarators) = phrase_of specs ⨾ list_phrase declarators ⨾ sign marks.Semicolon
  specifier_phrase (BitField declarator width) = maybe_phrase declarator ⨾ sign marks.Colon ⨾ phrase_of width
  specifier_phrase (Param specs declarator) = phrase_of specs ⨾ maybe_phrase declarator

  pub declarator_phrase : DeclaratorSyntax → Phrase
  declarator_phrase (Named pointers name suffixes) = all pointers ⨾ one name ⨾ row_phrase suffixes
  declarator_phrase (Nested pointers inner suffixes) = all pointers ⨾ sign marks.OpenParen ⨾ phrase_of inner ⨾ sign marks.CloseParen ⨾ row_phrase suffixes
  declarator_phrase (Unnamed pointers suffixes) = all pointers ⨾ row_phrase suffixes

  pub part_phrase : PartSyntax → Phrase
  part_phrase (SpecWord word) = one word
  part_phrase (ArrayBound words bound) = sign marks.OpenBracket ⨾ all words ⨾ maybe_phrase bound ⨾ sign marks.CloseBracket
  part_phrase VoidParams = sign marks.OpenParen ⨾ keyword words.Void ⨾ sign marks.CloseParen
  part_phrase (Params params variadic) = sign marks.OpenParen ⨾ list_phrase params ⨾ ellipsis_if variadic ⨾ sign marks.CloseParen
  part_phrase (Enumerator name value) = one name ⨾ assigned_phrase value
  part_phrase (MemberDesignator member) = sign marks.Dot ⨾ one member
  part_phrase (IndexDesignator index) = sign marks.OpenBracket ⨾ phrase_of index ⨾ sign marks.CloseBracket

  pub outer_phrase : OuterSyntax → Phrase
  outer_phrase (Declaration specs declarators) = phrase_of specs ⨾ list_phrase declarators ⨾ sign marks.Semicolon
  outer_phrase (Function specs declarator body) = phrase_of specs ⨾ phrase_of declarator ⨾ phrase_of body
  outer_phrase Empty = sign marks.Semicolon

  pub statement_phrase : StatementSyntax → Phrase
  statement_phrase (Block items) = sign marks.OpenBrace ⨾ row_phrase items ⨾ sign marks.CloseBrace
  statement_phrase (ExprStmt value) = maybe_phrase value ⨾ sign marks.Semicolon
  statement_phrase (If condition then otherwise) = keyword words.If ⨾ sign marks.OpenParen ⨾ phrase_of condition ⨾ sign marks.CloseParen ⨾ phrase_of then ⨾ else_phrase otherwise
  statement_phrase (Switch value body) = keyword words.Switch ⨾ sign marks.OpenParen ⨾ phrase_of value ⨾ sign marks.CloseParen ⨾ phrase_of body
  statement_phrase (Case value body) = keyword words.Case ⨾ phrase_of value ⨾ sign marks.Colon ⨾ phrase_of body
  statement_phrase (Default body) = keyword words.Default ⨾ sign marks.Colon ⨾ phrase_of body
  statement_phrase (Label label body) = one label ⨾ sign marks.Colon ⨾ phrase_of body

  pub iteration_phrase : IterationSyntax → Phrase
  iteration_phrase (While condition body) = keyword words.While ⨾ sign marks.OpenParen ⨾ phrase_of condition ⨾ sign marks.CloseParen ⨾ phrase_of body
  iteration_phrase (Do body condition) = keyword words.Do ⨾ phrase_of body ⨾ keyword words.While ⨾ sign marks.OpenParen ⨾ phrase_of condition ⨾ sign marks.CloseParen ⨾ sign marks.Semicolon
  iteration_phrase (For first condition step body) = keyword words.For ⨾ sign marks.OpenParen ⨾ maybe_phrase first ⨾ sign marks.Semicolon ⨾ maybe_phrase condition ⨾ sign marks.Semicolon ⨾ maybe_phrase step ⨾ sign marks.CloseParen ⨾ phrase_of body
  iteration_phrase (ForDeclaration declaration condition step body) = keyword words.For ⨾ sign marks.OpenParen ⨾ phrase_of declaration ⨾ maybe_phrase condition ⨾ sign marks.Semicolon ⨾ maybe_phrase step ⨾ sign marks.CloseParen ⨾ phrase_of body

  pub jump_phrase : JumpSyntax → Phrase
  jump_phrase (Goto label) = keyword words.Goto ⨾ one label ⨾ sign marks.Semicolon
  jump_phrase Continue = keyword words.Continue ⨾ sign marks.Semicolon
  jump_phrase Break = keyword words.Break ⨾ sign marks.Semicolon
  jump_phrase (Return value) = keyword words.Return ⨾ maybe_phrase value ⨾ sign marks.Semicolon

  pub maybe_phrase : MaybeSyntax → Phrase
  maybe_phrase absent = nothing
  maybe_phrase (present e) = phrase_of e

  pub assigned_phrase : MaybeSyntax → Phrase
  assigned_phrase absent = nothing
  assigned_phrase (present e) = sign marks.Assign ⨾ phrase_of e

  pub else_phrase : MaybeSyntax → Phrase
  else_phrase absent = nothing
  else_phrase (present e) = keyword words.Else ⨾ phrase_of e

  -- one after the other
  pub row_phrase : Syntaxes → Phrase
  row_phrase no_more = nothing
  row_phrase (more e es) = phrase_of e ⨾ row_phrase es

  -- with commas between
  pub list_phrase : Syntaxes → Phrase
  list_phrase no_more = nothing
  list_phrase (more e es) = phrase_of e ⨾ more_phrase es

  -- with a comma before each
  pub more_phrase : Syntaxes → Phrase
  more_phrase no_more = nothing
  more_phrase (more e es) = sign marks.Comma ⨾ phrase_of e ⨾ more_phrase es

-- the tokens of a tree, and then these
abbrev pub tokens_then : Syntax → List Symbol → List Symbol
tokens_then e ts = phrase_then (phrase_of e) ts

abbrev pub tokens_of : Syntax → List Symbol
tokens_of e = tokens_then e []
