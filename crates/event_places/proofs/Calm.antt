-- The trees of the grammar have calm lines: the only braces in them are those of bodies, initial values and blocks.
use Rattle.std.proofs.Common.{◌≡◌, nat_eq, List, [], ◌∷◌, Bool, true, false, ◌||◌, not, Option, None, Some, inl, inr, refl, ap}
use Rattle.std.specs.Prelude.{⊤}
use Rattle.std.specs.Option.{option_map}
use Rattle.c_tree.specs.declared.keyword.Keyword.TheVariants as words
use Rattle.c_tree.specs.declared.operator.UnaryOp.{UnaryOp}
use Rattle.c_tree.specs.declared.operator.UnaryOp.TheVariants as unary
use Rattle.c_tree.specs.declared.punctuator.Punctuator.{Punctuator}
use Rattle.c_tree.specs.declared.punctuator.Punctuator.TheVariants as marks
use Rattle.c_tree.specs.declared.token.Token.{Token}
use Rattle.c_tree.specs.Codes.{punctuator_code}
use Rattle.c_tree.specs.Forget.{syntax_of, primary_syntax, operation_syntax, initializer_syntax, specifier_syntax, declarator_syntax, part_syntax, statement_syntax, iteration_syntax, jump_syntax, maybe_syntax, syntaxes_of}
use Rattle.c_tree.specs.Node.{Node, node, Primary, Operation, Initializer, Specifier, Declarator, Part, Outer, Statement, Iteration, Jump, PrimaryShape, OperationShape, InitializerShape, SpecifierShape, DeclaratorShape, PartShape, StatementShape, IterationShape, JumpShape, Ident, Constant, StrConst, Paren, VaArg, Offsetof, Hole, Index, Call, Member, Arrow, CompoundLit, Unary, SizeofType, Cast, Binary, Cond, Assign, Init, Braces, Designated, TypeName, Specs, StructTag, StructBody, EnumTag, EnumBody, StructDeclaration, BitField, Param, Named, Nested, Unnamed, SpecWord, ArrayBound, VoidParams, Params, Enumerator, MemberDesignator, IndexDesignator, Declaration, Empty, Block, ExprStmt, If, Switch, Case, Default, Label, While, Do, For, ForDeclaration, Goto, Continue, Break, Return, MaybeNode, absent, present, Nodes, no_more, more}
use Rattle.c_tree.specs.Symbol.{Symbol, Sign, symbol_of, symbols_of}
use Rattle.c_tree.specs.Tokens.{binary_sign, assign_sign, word_of}
use Rattle.c_grammar.specs.CPlaces.Lines.{Line, kept, all_kept, line_of, primary_line, operation_line, initializer_line, specifier_line, declarator_line, part_line, statement_line, iteration_line, jump_line, unary_line, maybe_line, assigned_line, else_line, row_line, list_line, more_line, tag_if, comma_if, ellipsis_if, declared_token}
use Rattle.c_grammar.specs.Grammar.{IsOrdinary, AreStrings, IsItem, AreItems, AreSpecifiers, IsTag, is_pointer_word, ArePointers, is_bound_word, IsExpr, IsPrimary, IsOperation, AreArguments, IsPath, IsDesignator, IsDesignatorPart, IsTypeName, IsTypeNameSpecifier, IsMaybeDeclarator, IsDeclarator, IsDirect, AreSuffixes, IsSuffix, IsSuffixPart, IsBound, AreParams, IsParam, IsParamSpecifier}
use Rattle.c_grammar.specs.Names.{Names, with_param}
use Rattle.c_grammar.specs.Nonterminal.{Form, Abstract, Either, WithName}
use Rattle.c_grammar.specs.Specifiers as specifiers
use Rattle.c_grammar.specs.Specifiers.{is_specifier, types}
use Rattle.c_grammar.specs.Symbols.{is_sign, is_word, is_string, is_constant, AreAll}
use Rattle.c_grammar.specs.UnitGrammar.Declarations.{IsMaybeConstant, IsMaybeTag, IsEnumerator, AreEnumerators, IsMemberDeclarator, AreMemberDeclarators, AreFullSpecifiers, AreSpecs, AreFullItems, IsFullItem, IsTagged, AreMembers, IsMember, IsMemberDeclaration, IsInitial, IsBraces, AreInitials, IsInitDeclarator, AreInitDeclarators, IsDeclaration}
use Rattle.c_grammar.specs.UnitGrammar.Names.{declared}
use Rattle.c_grammar.specs.UnitGrammar.Statements.{IsMaybeExpr, IsStatement, IsPlain, IsElse, IsIteration, IsJump, AreBlockItems, AreStatements}
use Rattle.event_places.proofs.Braces.{is_brace, IsCalm, calm-nothing, calm-kept, calm-all, calm-at, calm-names, ◌⨟◌, open-brace, calm-open, open-calm, close-brace, calm-node, calm-sign, calm-keyword, binary-plain, assign-plain}

-- SYMBOLS that are no braces
word-plain : (s : Symbol) → is_word s ≡ true → is_brace s ≡ false
word-plain (Sign p) h = cc
word-plain _ h = refl

ordinary-plain : (names : Names) (s : Symbol) → IsOrdinary names s → is_brace s ≡ false
ordinary-plain names (Sign p) h = absurd h
ordinary-plain names _ h = refl

constant-plain : (s : Symbol) → is_constant s ≡ true → is_brace s ≡ false
constant-plain (Sign p) h = cc
constant-plain _ h = refl

string-plain : (s : Symbol) → is_string s ≡ true → is_brace s ≡ false
string-plain (Sign p) h = cc
string-plain _ h = refl

specifier-plain : (names : Names) (typed : Bool) (s : Symbol) → is_specifier names typed s ≡ true → is_brace s ≡ false
specifier-plain names typed (Sign p) h = cc
specifier-plain names typed _ h = refl

-- a sign that has the number of `*` is no brace
star-plain : (p : Punctuator) → nat_eq (punctuator_code marks.Star) (punctuator_code p) ≡ true → is_brace (Sign p) ≡ false
star-plain marks.OpenBrace h = cc
star-plain marks.CloseBrace h = cc
star-plain _ h = refl

pointer-plain : (s : Symbol) → is_pointer_word s ≡ true → is_brace s ≡ false
pointer-plain (Sign p) h = star-plain p h
pointer-plain _ h = refl

bound-plain : (s : Symbol) → is_bound_word s ≡ true → is_brace s ≡ false
bound-plain (Sign p) h = cc
bound-plain _ h = refl

calm-word : (t : Token) → is_word (symbol_of t) ≡ true → IsCalm (kept t)
calm-word t h = calm-kept t (word-plain (symbol_of t) h)

calm-strings : (us : List Token) → AreStrings (symbols_of us) → IsCalm (all_kept us)
calm-strings [] h = absurd h
calm-strings (u ∷ us) h = calm-all (u ∷ us) is_string string-plain h

abbrev is_plain : Symbol → Bool
is_plain s = not (is_brace s)

plainly : (s : Symbol) → is_plain s ≡ true → is_brace s ≡ false
plainly s k = by (is_brace s) k
  where
    by : (b : Bool) → not b ≡ true → b ≡ false
    by true k = cc
    by false k = refl

first-plain : (s : Symbol) → is_sign marks.Star s ≡ true → is_plain s ≡ true
first-plain (Sign p) k = ap not (star-plain p k)
first-plain _ k = refl

rest-plain : (ss : List Symbol) → AreAll is_pointer_word ss → AreAll is_plain ss
rest-plain [] k = tt
rest-plain (s ∷ ss) k = (ap not (pointer-plain s k.0), rest-plain ss k.1)

calm-pointers : (us : List Token) → ArePointers (symbols_of us) → IsCalm (all_kept us)
calm-pointers [] h = calm-all [] is_plain plainly tt
calm-pointers (u ∷ us) h = calm-all (u ∷ us) is_plain plainly (first-plain (symbol_of u) h.0, rest-plain (symbols_of us) h.1)

calm-tag : (o : Option Token) → IsMaybeTag (option_map symbol_of o) → IsCalm (tag_if o)
calm-tag None h = calm-nothing
calm-tag (Some t) h = calm-word t h

calm-comma : (b : Bool) → IsCalm (comma_if b)
calm-comma true = calm-sign marks.Comma refl
calm-comma false = calm-nothing

calm-ellipsis : (b : Bool) → IsCalm (ellipsis_if b)
calm-ellipsis true = calm-sign marks.Comma refl ⨟ calm-sign marks.Ellipsis refl
calm-ellipsis false = calm-nothing

calm-unary : (op : UnaryOp) (l : Line) → IsCalm l → IsCalm (unary_line op l)
calm-unary unary.PostInc l h = h ⨟ calm-sign marks.Increment refl
calm-unary unary.PostDec l h = h ⨟ calm-sign marks.Decrement refl
calm-unary unary.PreInc l h = calm-sign marks.Increment refl ⨟ h
calm-unary unary.PreDec l h = calm-sign marks.Decrement refl ⨟ h
calm-unary unary.AddressOf l h = calm-sign marks.Ampersand refl ⨟ h
calm-unary unary.Deref l h = calm-sign marks.Star refl ⨟ h
calm-unary unary.Plus l h = calm-sign marks.Plus refl ⨟ h
calm-unary unary.Minus l h = calm-sign marks.Minus refl ⨟ h
calm-unary unary.BitNot l h = calm-sign marks.Tilde refl ⨟ h
calm-unary unary.Not l h = calm-sign marks.Exclamation refl ⨟ h
calm-unary unary.Sizeof l h = calm-keyword words.Sizeof ⨟ h

-- nodes with commas between them, where the line of each is calm
abbrev AllCalm : Nodes → Type 0
AllCalm no_more = ⊤
AllCalm (more n ns) = IsCalm (line_of n) × AllCalm ns

calm-list : (ns : Nodes) → AllCalm ns → IsCalm (list_line ns)
calm-list no_more h = calm-nothing
calm-list (more n ns) h = h.0 ⨟ further ns h.1
  where
    further : (ns : Nodes) → AllCalm ns → IsCalm (more_line ns)
    further no_more h = calm-nothing
    further (more n ns) h = calm-sign marks.Comma refl ⨟ h.0 ⨟ further ns h.1

-- a tag without a body
calm-bare-tag : (n : Node) → IsTag (syntax_of n) → IsCalm (line_of n)
calm-bare-tag (node i p (Specifier (StructTag which tag))) h = calm-node i p (Specifier (StructTag which tag)) (calm-keyword (word_of which) ⨟ calm-word tag h)
calm-bare-tag (node i p (Specifier (EnumTag tag))) h = calm-node i p (Specifier (EnumTag tag)) (calm-keyword words.Enum ⨟ calm-word tag h)
calm-bare-tag _ h = absurd h

calm-item : (names : Names) (typed : Bool) (n : Node) → IsItem IsTag names typed (syntax_of n) → IsCalm (line_of n)
calm-item names typed (node i p (Part (SpecWord word))) h = calm-node i p (Part (SpecWord word)) (calm-kept word (specifier-plain names typed (symbol_of word) h))
calm-item names typed (node i p (Specifier k)) h = calm-bare-tag (node i p (Specifier k)) h
calm-item names typed _ h = absurd h

calm-items : (names : Names) (typed : Bool) (ns : Nodes) → AreItems IsTag names typed (syntaxes_of ns) → IsCalm (row_line ns)
calm-items names typed no_more h = calm-nothing
calm-items names typed (more n ns) h = calm-item names typed n h.0 ⨟ calm-items names (typed || types (syntax_of n)) ns h.1

calm-specifiers : (place : specifiers.Place) (names : Names) (n : Node) → AreSpecifiers IsTag place names (syntax_of n) → IsCalm (line_of n)
calm-specifiers place names (node i p (Specifier (Specs items))) h = calm-node i p (Specifier (Specs items)) (calm-items names false items h.0)
calm-specifiers place names _ h = absurd h

mutual
  -- EXPRESSIONS
  pub calm-expr : (names : Names) (n : Node) → IsExpr names (syntax_of n) → IsCalm (line_of n)
  calm-expr names (node i p (Primary k)) h = calm-node i p (Primary k) (calm-primary names k h)
  calm-expr names (node i p (Operation k)) h = calm-node i p (Operation k) (calm-operation names k h)
  calm-expr names _ h = absurd h

  calm-primary : (names : Names) (k : PrimaryShape) → IsPrimary names (primary_syntax k) → IsCalm (primary_line k)
  calm-primary names (Ident name) h = calm-kept name (ordinary-plain names (symbol_of name) h)
  calm-primary names (Constant token) h = calm-kept token (constant-plain (symbol_of token) h)
  calm-primary names (StrConst literals) h = calm-strings literals h
  calm-primary names (Paren inner) h = calm-sign marks.OpenParen refl ⨟ calm-expr names inner h ⨟ calm-sign marks.CloseParen refl
  calm-primary names (VaArg list of) h = calm-keyword words.BuiltinVaArg ⨟ calm-sign marks.OpenParen refl ⨟ calm-expr names list h.1 ⨟ calm-sign marks.Comma refl ⨟ calm-type-name names of h.2 ⨟ calm-sign marks.CloseParen refl
  calm-primary names (Offsetof of member path) h = calm-keyword words.BuiltinOffsetof ⨟ calm-sign marks.OpenParen refl ⨟ calm-type-name names of h.0 ⨟ calm-sign marks.Comma refl ⨟ calm-word member h.1 ⨟ calm-path names path h.2 ⨟ calm-sign marks.CloseParen refl
  calm-primary names (Hole number) h = absurd h

  calm-operation : (names : Names) (k : OperationShape) → IsOperation names (operation_syntax k) → IsCalm (operation_line k)
  calm-operation names (Index array index) h = calm-expr names array h.1 ⨟ calm-sign marks.OpenBracket refl ⨟ calm-expr names index h.2 ⨟ calm-sign marks.CloseBracket refl
  calm-operation names (Call callee parenthesis arguments) h = calm-expr names callee h.1 ⨟ calm-at parenthesis ⨟ calm-sign marks.OpenParen refl ⨟ calm-list arguments (all-arguments names arguments h.2) ⨟ calm-sign marks.CloseParen refl
  calm-operation names (Member x member) h = calm-expr names x h.1 ⨟ calm-sign marks.Dot refl ⨟ calm-word member h.2
  calm-operation names (Arrow x member) h = calm-expr names x h.1 ⨟ calm-sign marks.Arrow refl ⨟ calm-word member h.2
  calm-operation names (CompoundLit of braces) h = absurd h
  calm-operation names (Unary op x) h = calm-unary op (line_of x) (calm-expr names x h.1)
  calm-operation names (SizeofType of) h = calm-keyword words.Sizeof ⨟ calm-sign marks.OpenParen refl ⨟ calm-type-name names of h ⨟ calm-sign marks.CloseParen refl
  calm-operation names (Cast to x) h = calm-sign marks.OpenParen refl ⨟ calm-type-name names to h.0 ⨟ calm-sign marks.CloseParen refl ⨟ calm-expr names x h.2
  calm-operation names (Binary op x y) h = calm-expr names x h.1 ⨟ calm-sign (binary_sign op) (binary-plain op) ⨟ calm-expr names y h.3
  calm-operation names (Cond x y z) h = calm-expr names x h.1 ⨟ calm-sign marks.Question refl ⨟ calm-expr names y h.2 ⨟ calm-sign marks.Colon refl ⨟ calm-expr names z h.4
  calm-operation names (Assign op x y) h = calm-expr names x h.1 ⨟ calm-sign (assign_sign op) (assign-plain op) ⨟ calm-expr names y h.3

  all-arguments : (names : Names) (ns : Nodes) → AreArguments names (syntaxes_of ns) → AllCalm ns
  all-arguments names no_more h = tt
  all-arguments names (more n ns) h = (calm-expr names n h.1, all-arguments names ns h.2)

  calm-path : (names : Names) (ns : Nodes) → IsPath names (syntaxes_of ns) → IsCalm (row_line ns)
  calm-path names no_more h = calm-nothing
  calm-path names (more n ns) h = calm-designator names n h.0 ⨟ calm-path names ns h.1

  calm-designator : (names : Names) (n : Node) → IsDesignator names (syntax_of n) → IsCalm (line_of n)
  calm-designator names (node i p (Part k)) h = calm-node i p (Part k) (calm-designator-part names k h)
  calm-designator names _ h = absurd h

  calm-designator-part : (names : Names) (k : PartShape) → IsDesignatorPart names (part_syntax k) → IsCalm (part_line k)
  calm-designator-part names (MemberDesignator member) h = calm-sign marks.Dot refl ⨟ calm-word member h
  calm-designator-part names (IndexDesignator index) h = calm-sign marks.OpenBracket refl ⨟ calm-expr names index h ⨟ calm-sign marks.CloseBracket refl
  calm-designator-part names _ h = absurd h

  -- TYPE NAMES AND DECLARATORS
  calm-type-name : (names : Names) (n : Node) → IsTypeName names (syntax_of n) → IsCalm (line_of n)
  calm-type-name names (node i p (Specifier k)) h = calm-node i p (Specifier k) (calm-type-specifier names k h)
  calm-type-name names _ h = absurd h

  calm-type-specifier : (names : Names) (k : SpecifierShape) → IsTypeNameSpecifier names (specifier_syntax k) → IsCalm (specifier_line k)
  calm-type-specifier names (TypeName specs declarator) h = calm-specifiers specifiers.InTypeName names specs h.0 ⨟ calm-maybe-declarator Abstract names declarator h.1
  calm-type-specifier names _ h = absurd h

  pub calm-maybe-declarator : (form : Form) (names : Names) (m : MaybeNode) → IsMaybeDeclarator form names (maybe_syntax m) → IsCalm (maybe_line m)
  calm-maybe-declarator form names absent h = calm-nothing
  calm-maybe-declarator form names (present d) h = calm-declarator form names d h

  pub calm-declarator : (form : Form) (names : Names) (n : Node) → IsDeclarator form names (syntax_of n) → IsCalm (line_of n)
  calm-declarator form names (node i p (Declarator k)) h = calm-node i p (Declarator k) (calm-direct form names k h)
  calm-declarator form names _ h = absurd h

  calm-direct : (form : Form) (names : Names) (k : DeclaratorShape) → IsDirect form names (declarator_syntax k) → IsCalm (declarator_line k)
  calm-direct form names (Named pointers name suffixes) h = calm-pointers pointers h.1 ⨟ calm-word name h.2 ⨟ calm-suffixes names suffixes h.3
  calm-direct form names (Nested pointers inner suffixes) h = calm-pointers pointers h.0 ⨟ calm-sign marks.OpenParen refl ⨟ calm-declarator form names inner h.1 ⨟ calm-sign marks.CloseParen refl ⨟ calm-suffixes names suffixes h.3
  calm-direct form names (Unnamed pointers suffixes) h = calm-pointers pointers h.1 ⨟ calm-suffixes names suffixes h.2

  calm-suffixes : (names : Names) (ns : Nodes) → AreSuffixes names (syntaxes_of ns) → IsCalm (row_line ns)
  calm-suffixes names no_more h = calm-nothing
  calm-suffixes names (more n ns) h = calm-suffix names n h.0 ⨟ calm-suffixes names ns h.1

  calm-suffix : (names : Names) (n : Node) → IsSuffix names (syntax_of n) → IsCalm (line_of n)
  calm-suffix names (node i p (Part k)) h = calm-node i p (Part k) (calm-suffix-part names k h)
  calm-suffix names _ h = absurd h

  calm-suffix-part : (names : Names) (k : PartShape) → IsSuffixPart names (part_syntax k) → IsCalm (part_line k)
  calm-suffix-part names (ArrayBound words bound) h = calm-sign marks.OpenBracket refl ⨟ calm-all words is_bound_word bound-plain h.0 ⨟ calm-bound names bound h.1 ⨟ calm-sign marks.CloseBracket refl
  calm-suffix-part names VoidParams h = calm-sign marks.OpenParen refl ⨟ calm-keyword words.Void ⨟ calm-sign marks.CloseParen refl
  calm-suffix-part names (Params params variadic) h = calm-sign marks.OpenParen refl ⨟ calm-list params (all-params names params h.0) ⨟ calm-ellipsis variadic ⨟ calm-sign marks.CloseParen refl
  calm-suffix-part names _ h = absurd h

  calm-bound : (names : Names) (m : MaybeNode) → IsBound names (maybe_syntax m) → IsCalm (maybe_line m)
  calm-bound names absent h = calm-nothing
  calm-bound names (present e) h = calm-expr names e h.1

  all-params : (names : Names) (ns : Nodes) → AreParams names (syntaxes_of ns) → AllCalm ns
  all-params names no_more h = tt
  all-params names (more n ns) h = (calm-param names n h.0, all-params (with_param (syntax_of n) names) ns h.1)

  calm-param : (names : Names) (n : Node) → IsParam names (syntax_of n) → IsCalm (line_of n)
  calm-param names (node i p (Specifier k)) h = calm-node i p (Specifier k) (calm-param-specifier names k h)
  calm-param names _ h = absurd h

  calm-param-specifier : (names : Names) (k : SpecifierShape) → IsParamSpecifier names (specifier_syntax k) → IsCalm (specifier_line k)
  calm-param-specifier names (Param specs declarator) h = calm-specifiers specifiers.InParam names specs h.0 ⨟ calm-maybe-declarator Either names declarator h.1
  calm-param-specifier names _ h = absurd h

calm-maybe-expr : (names : Names) (m : MaybeNode) → IsMaybeExpr names (maybe_syntax m) → IsCalm (maybe_line m)
calm-maybe-expr names absent h = calm-nothing
calm-maybe-expr names (present e) h = calm-expr names e h

calm-value : (names : Names) (m : MaybeNode) → IsMaybeConstant names (maybe_syntax m) → IsCalm (assigned_line m)
calm-value names absent h = calm-nothing
calm-value names (present e) h = calm-sign marks.Assign refl ⨟ calm-expr names e h.1

-- ENUMERATORS
calm-enumerator : (names : Names) (n : Node) → IsEnumerator names (syntax_of n) → IsCalm (line_of n)
calm-enumerator names (node i p (Part (Enumerator name value))) h = calm-node i p (Part (Enumerator name value)) (calm-word name h.0 ⨟ calm-value names value h.1)
calm-enumerator names _ h = absurd h

all-enumerators : (names : Names) (ns : Nodes) → AreEnumerators names (syntaxes_of ns) → AllCalm ns
all-enumerators names no_more h = tt
all-enumerators names (more n ns) h = (calm-enumerator names n h.0, all-enumerators (declared (syntax_of n) names) ns h.1)

-- MEMBERS
calm-member-declarator : (names : Names) (n : Node) → IsMemberDeclarator names (syntax_of n) → IsCalm (line_of n)
calm-member-declarator names (node i p (Declarator k)) h = calm-declarator WithName names (node i p (Declarator k)) h
calm-member-declarator names (node i p (Specifier (BitField declarator width))) h = calm-node i p (Specifier (BitField declarator width)) (calm-maybe-declarator WithName names declarator h.0 ⨟ calm-sign marks.Colon refl ⨟ calm-expr names width h.1.1)
calm-member-declarator names _ h = absurd h

all-member-declarators : (names : Names) (ns : Nodes) → AreMemberDeclarators names (syntaxes_of ns) → AllCalm ns
all-member-declarators names no_more h = tt
all-member-declarators names (more n ns) h = (calm-member-declarator names n h.0, all-member-declarators names ns h.1)

mutual
  calm-full : (place : specifiers.Place) (names : Names) (n : Node) → AreFullSpecifiers place names (syntax_of n) → IsCalm (line_of n)
  calm-full place names (node i p (Specifier k)) h = calm-node i p (Specifier k) (calm-specs place names k h)
  calm-full place names _ h = absurd h

  calm-specs : (place : specifiers.Place) (names : Names) (k : SpecifierShape) → AreSpecs place names (specifier_syntax k) → IsCalm (specifier_line k)
  calm-specs place names (Specs items) h = calm-full-items names false items h.0
  calm-specs place names _ h = absurd h

  calm-full-items : (names : Names) (typed : Bool) (ns : Nodes) → AreFullItems names typed (syntaxes_of ns) → IsCalm (row_line ns)
  calm-full-items names typed no_more h = calm-nothing
  calm-full-items names typed (more n ns) h = calm-full-item names typed n h.0 ⨟ calm-full-items names (typed || types (syntax_of n)) ns h.1

  calm-full-item : (names : Names) (typed : Bool) (n : Node) → IsFullItem names typed (syntax_of n) → IsCalm (line_of n)
  calm-full-item names typed (node i p (Part (SpecWord word))) h = calm-node i p (Part (SpecWord word)) (calm-kept word (specifier-plain names typed (symbol_of word) h))
  calm-full-item names typed (node i p (Specifier k)) h = calm-node i p (Specifier k) (calm-tagged names k h)
  calm-full-item names typed _ h = absurd h

  calm-tagged : (names : Names) (k : SpecifierShape) → IsTagged names (specifier_syntax k) → IsCalm (specifier_line k)
  calm-tagged names (StructTag which tag) h = calm-keyword (word_of which) ⨟ calm-word tag h
  calm-tagged names (EnumTag tag) h = calm-keyword words.Enum ⨟ calm-word tag h
  calm-tagged names (StructBody which tag members) h = close-brace (open-calm (calm-open (calm-keyword (word_of which) ⨟ calm-tag tag h.0) open-brace) (calm-members names members h.1))
  calm-tagged names (EnumBody tag enumerators comma) h = close-brace (open-calm (open-calm (calm-open (calm-keyword words.Enum ⨟ calm-tag tag h.0) open-brace) (calm-list enumerators (all-enumerators names enumerators h.1))) (calm-comma comma))
  calm-tagged names _ h = absurd h

  calm-members : (names : Names) (ns : Nodes) → AreMembers names (syntaxes_of ns) → IsCalm (row_line ns)
  calm-members names no_more h = calm-nothing
  calm-members names (more n ns) h = calm-member names n h.0 ⨟ calm-members (declared (syntax_of n) names) ns h.1

  calm-member : (names : Names) (n : Node) → IsMember names (syntax_of n) → IsCalm (line_of n)
  calm-member names (node i p (Outer Empty)) h = calm-node i p (Outer Empty) (calm-sign marks.Semicolon refl)
  calm-member names (node i p (Specifier k)) h = calm-node i p (Specifier k) (calm-member-declaration names k h)
  calm-member names _ h = absurd h

  calm-member-declaration : (names : Names) (k : SpecifierShape) → IsMemberDeclaration names (specifier_syntax k) → IsCalm (specifier_line k)
  calm-member-declaration names (StructDeclaration specs declarators) h = calm-full specifiers.InTypeName names specs h.0 ⨟ calm-list declarators (all-member-declarators (declared (syntax_of specs) names) declarators h.1) ⨟ calm-sign marks.Semicolon refl
  calm-member-declaration names _ h = absurd h

-- INITIAL VALUES
mutual
  calm-initial : (names : Names) (n : Node) → IsInitial names (syntax_of n) → IsCalm (line_of n)
  calm-initial names (node i p (Initializer k)) h = calm-node i p (Initializer k) (calm-braced names k h)
  calm-initial names (node i p (Primary k)) h = calm-expr names (node i p (Primary k)) h.1
  calm-initial names (node i p (Operation k)) h = calm-expr names (node i p (Operation k)) h.1
  calm-initial names (node i p (Specifier k)) h = calm-expr names (node i p (Specifier k)) h.1
  calm-initial names (node i p (Declarator k)) h = calm-expr names (node i p (Declarator k)) h.1
  calm-initial names (node i p (Part k)) h = calm-expr names (node i p (Part k)) h.1
  calm-initial names (node i p (Outer k)) h = calm-expr names (node i p (Outer k)) h.1
  calm-initial names (node i p (Statement k)) h = calm-expr names (node i p (Statement k)) h.1
  calm-initial names (node i p (Iteration k)) h = calm-expr names (node i p (Iteration k)) h.1
  calm-initial names (node i p (Jump k)) h = calm-expr names (node i p (Jump k)) h.1

  calm-braced : (names : Names) (k : InitializerShape) → IsBraces names (initializer_syntax k) → IsCalm (initializer_line k)
  calm-braced names (Braces elements comma) h = close-brace (open-calm (open-calm open-brace (calm-list elements (all-initials names elements h.0))) (calm-comma comma))
  calm-braced names (Init name declarator initial) h = absurd h
  calm-braced names (Designated designators initial) h = absurd h

  all-initials : (names : Names) (ns : Nodes) → AreInitials names (syntaxes_of ns) → AllCalm ns
  all-initials names no_more h = tt
  all-initials names (more n ns) h = (calm-initial names n h.0, all-initials names ns h.1)

-- DECLARATIONS
calm-init-declarator : (type : Bool) (names : Names) (n : Node) → IsInitDeclarator type names (syntax_of n) → IsCalm (line_of n)
calm-init-declarator type names (node i p (Declarator k)) h = calm-declarator WithName names (node i p (Declarator k)) h
calm-init-declarator type names (node i p (Initializer (Init name declarator initial))) h =
    calm-node i p (Initializer (Init name declarator initial))
    (calm-declarator WithName names declarator h.1 ⨟ calm-names (declared_token declarator) name ⨟ calm-sign marks.Assign refl ⨟ calm-initial _ initial h.2)
calm-init-declarator type names _ h = absurd h

all-init-declarators : (type : Bool) (names : Names) (ns : Nodes) → AreInitDeclarators type names (syntaxes_of ns) → AllCalm ns
all-init-declarators type names no_more h = tt
all-init-declarators type names (more n ns) h = (calm-init-declarator type names n h.0, all-init-declarators type _ ns h.1)

calm-declaration : (names : Names) (n : Node) → IsDeclaration names (syntax_of n) → IsCalm (line_of n)
calm-declaration names (node i p (Outer (Declaration specs declarators))) h =
    calm-node i p (Outer (Declaration specs declarators)) (calm-full specifiers.InDeclaration names specs h.0 ⨟ calm-list declarators (all-init-declarators _ _ declarators h.1) ⨟ calm-sign marks.Semicolon refl)
calm-declaration names _ h = absurd h

-- STATEMENTS
mutual
  calm-statement : (names : Names) (n : Node) → IsStatement names (syntax_of n) → IsCalm (line_of n)
  calm-statement names (node i p (Statement k)) h = calm-node i p (Statement k) (calm-plain names k h)
  calm-statement names (node i p (Iteration k)) h = calm-node i p (Iteration k) (calm-iteration names k h)
  calm-statement names (node i p (Jump k)) h = calm-node i p (Jump k) (calm-jump names k h)
  calm-statement names _ h = absurd h

  calm-plain : (names : Names) (k : StatementShape) → IsPlain names (statement_syntax k) → IsCalm (statement_line k)
  calm-plain names (Block items) h = close-brace (open-calm open-brace (calm-block names items h))
  calm-plain names (ExprStmt value) h = calm-maybe-expr names value h ⨟ calm-sign marks.Semicolon refl
  calm-plain names (If condition then otherwise) h = calm-keyword words.If ⨟ calm-sign marks.OpenParen refl ⨟ calm-expr names condition h.0 ⨟ calm-sign marks.CloseParen refl ⨟ calm-statement names then h.1 ⨟ calm-else names _ otherwise h.2
  calm-plain names (Switch value body) h = calm-keyword words.Switch ⨟ calm-sign marks.OpenParen refl ⨟ calm-expr names value h.0 ⨟ calm-sign marks.CloseParen refl ⨟ calm-statement names body h.1
  calm-plain names (Case value body) h = calm-keyword words.Case ⨟ calm-expr names value h.0.1 ⨟ calm-sign marks.Colon refl ⨟ calm-statement names body h.1
  calm-plain names (Default body) h = calm-keyword words.Default ⨟ calm-sign marks.Colon refl ⨟ calm-statement names body h
  calm-plain names (Label label body) h = calm-word label h.0 ⨟ calm-sign marks.Colon refl ⨟ calm-statement names body h.1

  calm-else : (names : Names) (taken : Bool) (m : MaybeNode) → IsElse names taken (maybe_syntax m) → IsCalm (else_line m)
  calm-else names taken absent h = calm-nothing
  calm-else names taken (present e) h = calm-keyword words.Else ⨟ calm-statement names e h.1

  calm-iteration : (names : Names) (k : IterationShape) → IsIteration names (iteration_syntax k) → IsCalm (iteration_line k)
  calm-iteration names (While condition body) h = calm-keyword words.While ⨟ calm-sign marks.OpenParen refl ⨟ calm-expr names condition h.0 ⨟ calm-sign marks.CloseParen refl ⨟ calm-statement names body h.1
  calm-iteration names (Do body condition) h = calm-keyword words.Do ⨟ calm-statement names body h.0 ⨟ calm-keyword words.While ⨟ calm-sign marks.OpenParen refl ⨟ calm-expr names condition h.1 ⨟ calm-sign marks.CloseParen refl ⨟ calm-sign marks.Semicolon refl
  calm-iteration names (For first condition step body) h = calm-keyword words.For ⨟ calm-sign marks.OpenParen refl ⨟ calm-maybe-expr names first h.0 ⨟ calm-sign marks.Semicolon refl ⨟ calm-maybe-expr names condition h.1 ⨟ calm-sign marks.Semicolon refl ⨟ calm-maybe-expr names step h.2 ⨟ calm-sign marks.CloseParen refl ⨟ calm-statement names body h.3
  calm-iteration names (ForDeclaration declaration condition step body) h = absurd h

  calm-jump : (names : Names) (k : JumpShape) → IsJump names (jump_syntax k) → IsCalm (jump_line k)
  calm-jump names (Goto label) h = calm-keyword words.Goto ⨟ calm-word label h ⨟ calm-sign marks.Semicolon refl
  calm-jump names Continue h = calm-keyword words.Continue ⨟ calm-sign marks.Semicolon refl
  calm-jump names Break h = calm-keyword words.Break ⨟ calm-sign marks.Semicolon refl
  calm-jump names (Return value) h = calm-keyword words.Return ⨟ calm-maybe-expr names value h ⨟ calm-sign marks.Semicolon refl

  pub calm-block : (names : Names) (ns : Nodes) → AreBlockItems names (syntaxes_of ns) → IsCalm (row_line ns)
  calm-block names no_more h = calm-nothing
  calm-block names (more n ns) (inl h) = calm-declaration names n h.0 ⨟ calm-block (declared (syntax_of n) names) ns h.1
  calm-block names (more n ns) (inr h) = calm-statement names n h.0 ⨟ calm-statements names ns h.1

  calm-statements : (names : Names) (ns : Nodes) → AreStatements names (syntaxes_of ns) → IsCalm (row_line ns)
  calm-statements names no_more h = calm-nothing
  calm-statements names (more n ns) h = calm-statement names n h.0 ⨟ calm-statements names ns h.1
