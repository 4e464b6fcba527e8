-- THE READING OF A WRITTEN PATTERN: parentheses are seen through, `x->f` is `(*x).f`, and a type name is its type.
use Rattle.std.specs.Prelude.{ℕ, cond, List, [], ◌∷◌, Some}
use Rattle.c_tree.specs.declared.keyword.Keyword.{Keyword}
use Rattle.c_tree.specs.declared.operator.UnaryOp.TheVariants as unary
use Rattle.c_tree.specs.Symbol.{Symbol, Word, Reserved, IntLiteral, FloatLiteral, CharLiteral, StringLiteral}
use Rattle.c_tree.specs.Syntax.{Syntax, Primary, Operation, Initializer, Specifier, Declarator, Part, PrimarySyntax, OperationSyntax, InitializerSyntax, SpecifierSyntax, PartSyntax, Syntaxes, MaybeSyntax, absent, present}
use Rattle.c_tree.specs.Syntax as syntax
use Rattle.c_grammar.specs.Symbols.{is_sign}
use Rattle.c_tree.specs.declared.punctuator.Punctuator.TheVariants as marks
use Rattle.hole_matching.specs.MatchedTypes.{MatchedType, Pointer, Tagged, basic}
use Rattle.hole_matching.specs.Pattern.{Head, Identifier, Integer, Spelled, Strings, VaArg, Offsetof, Index, Call, Member, CompoundLit, Unary, SizeofType, Cast, Binary, Cond, Assign, Named, MemberDesignator, IndexDesignator, Braces, Designated, Pattern, hole, likewise, other, Patterns, no_more, more}

-- the number of a symbol's spelling; keywords and punctuators have none
abbrev pub spelling : Symbol → ℕ
spelling (Word n) = n
spelling (IntLiteral i n) = n
spelling (FloatLiteral e n) = n
spelling (CharLiteral w n) = n
spelling (StringLiteral w n) = n
spelling _ = 0

abbrev pub spellings : List Symbol → List ℕ
spellings [] = []
spellings (t ∷ ts) = spelling t ∷ spellings ts

abbrev pub constant_head : Symbol → Head
constant_head (IntLiteral i n) = Integer i.value
constant_head t = Spelled (spelling t)

-- the words of a basic type
abbrev pub words_of : Syntaxes → List Keyword
words_of (syntax.more (Part (syntax.SpecWord (Reserved k))) es) = k ∷ words_of es
words_of (syntax.more e es) = words_of es
words_of syntax.no_more = []

-- a type name of a checker before its stars: a structure or union by its tag, or the words of a basic type
abbrev pub written_specs : Syntax → MatchedType
written_specs (Specifier (syntax.Specs (syntax.more (Specifier (syntax.StructTag which tag)) syntax.no_more))) = Tagged which (Some (spelling tag))
written_specs (Specifier (syntax.Specs words)) = basic (words_of words)
written_specs _ = basic []

abbrev pub written_stars : List Symbol → MatchedType → MatchedType
written_stars [] t = t
written_stars (s ∷ ss) t = written_stars ss (cond (is_sign marks.Star s) (Pointer t) t)

abbrev pub around_written : MaybeSyntax → MatchedType → MatchedType
around_written (present (Declarator (syntax.Unnamed pointers suffixes))) t = written_stars pointers t
around_written _ t = t

abbrev pub one_part : Pattern → Patterns
one_part p = more p no_more

abbrev pub two_parts : Pattern → Pattern → Patterns
two_parts p q = more p (one_part q)

abbrev mutual
  pub pattern_of : Syntax → Pattern
  pattern_of (Primary k) = primary_pattern k
  pattern_of (Operation k) = operation_pattern k
  pattern_of (Initializer k) = initializer_pattern k
  pattern_of (Specifier k) = specifier_pattern k
  pattern_of (Part k) = part_pattern k
  pattern_of _ = other

  pub primary_pattern : PrimarySyntax → Pattern
  primary_pattern (syntax.Ident name) = likewise (Identifier (spelling name)) no_more
  primary_pattern (syntax.Constant token) = likewise (constant_head token) no_more
  primary_pattern (syntax.StrConst literals) = likewise (Strings (spellings literals)) no_more
  primary_pattern (syntax.Paren inner) = pattern_of inner
  primary_pattern (syntax.VaArg list of) = likewise VaArg (two_parts (pattern_of list) (pattern_of of))
  primary_pattern (syntax.Offsetof of member path) = likewise (Offsetof (spelling member)) (more (pattern_of of) (patterns_of path))
  primary_pattern (syntax.Hole number) = hole number

  pub operation_pattern : OperationSyntax → Pattern
  operation_pattern (syntax.Index array index) = likewise Index (two_parts (pattern_of array) (pattern_of index))
  operation_pattern (syntax.Call callee arguments) = likewise Call (more (pattern_of callee) (patterns_of arguments))
  operation_pattern (syntax.Member operand member) = likewise (Member (spelling member)) (one_part (pattern_of operand))
  operation_pattern (syntax.Arrow operand member) = likewise (Member (spelling member)) (one_part (likewise (Unary unary.Deref) (one_part (pattern_of operand))))
  operation_pattern (syntax.CompoundLit of braces) = likewise CompoundLit (two_parts (pattern_of of) (pattern_of braces))
  operation_pattern (syntax.Unary op operand) = likewise (Unary op) (one_part (pattern_of operand))
  operation_pattern (syntax.SizeofType of) = likewise SizeofType (one_part (pattern_of of))
  operation_pattern (syntax.Cast to operand) = likewise Cast (two_parts (pattern_of to) (pattern_of operand))
  operation_pattern (syntax.Binary op left right) = likewise (Binary op) (two_parts (pattern_of left) (pattern_of right))
  operation_pattern (syntax.Cond condition then otherwise) = likewise Cond (more (pattern_of condition) (two_parts (pattern_of then) (pattern_of otherwise)))
  operation_pattern (syntax.Assign op left right) = likewise (Assign op) (two_parts (pattern_of left) (pattern_of right))

  pub initializer_pattern : InitializerSyntax → Pattern
  initializer_pattern (syntax.Braces elements comma) = likewise Braces (patterns_of elements)
  initializer_pattern (syntax.Designated designators initial) = likewise Designated (patterns_then designators (one_part (pattern_of initial)))
  initializer_pattern _ = other

  pub specifier_pattern : SpecifierSyntax → Pattern
  specifier_pattern (syntax.TypeName specs declarator) = likewise (Named (around_written declarator (written_specs specs))) no_more
  specifier_pattern _ = other

  pub part_pattern : PartSyntax → Pattern
  part_pattern (syntax.MemberDesignator member) = likewise (MemberDesignator (spelling member)) no_more
  part_pattern (syntax.IndexDesignator index) = likewise IndexDesignator (one_part (pattern_of index))
  part_pattern _ = other

  pub patterns_of : Syntaxes → Patterns
  patterns_of syntax.no_more = no_more
  patterns_of (syntax.more e es) = more (pattern_of e) (patterns_of es)

  -- the patterns of these, and then others
  pub patterns_then : Syntaxes → Patterns → Patterns
  patterns_then syntax.no_more ps = ps
  patterns_then (syntax.more e es) ps = more (pattern_of e) (patterns_then es ps)
