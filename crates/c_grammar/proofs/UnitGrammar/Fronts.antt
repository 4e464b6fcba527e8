-- What declarations, members, initial values and statements begin with.
use Rattle.std.proofs.Common.{◌≡◌, Bool, true, false, not, ◌&&◌, ◌||◌, nat_le, List, [], ◌∷◌, None, ap, refl}
use Rattle.c_tree.specs.declared.keyword.Keyword.{Keyword}
use Rattle.c_tree.specs.declared.keyword.Keyword.TheVariants as words
use Rattle.c_tree.specs.declared.operator.AssignOp.{AssignOp}
use Rattle.c_tree.specs.declared.operator.AssignOp.TheVariants as assign
use Rattle.c_tree.specs.declared.operator.BinaryOp.{BinaryOp}
use Rattle.c_tree.specs.declared.operator.BinaryOp.TheVariants as binary
use Rattle.c_tree.specs.declared.operator.StructOrUnion.TheVariants as which_word
use Rattle.c_tree.specs.declared.operator.UnaryOp.TheVariants as unary
use Rattle.c_tree.specs.declared.punctuator.Punctuator.{Punctuator}
use Rattle.c_tree.specs.declared.punctuator.Punctuator.TheVariants as marks
use Rattle.c_tree.specs.Codes.{punctuator_code}
use Rattle.c_tree.specs.Symbol.{Symbol, Word, Reserved, Sign, IntLiteral, FloatLiteral, CharLiteral, StringLiteral}
use Rattle.c_tree.specs.Syntax.{Syntax, Primary, Operation, Initializer, Specifier, Declarator, Part, Outer, Statement, Iteration, Jump, Ident, Constant, StrConst, Paren, VaArg, Offsetof, Index, Call, Member, Arrow, Unary, SizeofType, Cast, Binary, Cond, Assign, Init, Braces, Specs, StructTag, StructBody, EnumTag, EnumBody, StructDeclaration, BitField, SpecWord, Enumerator, Declaration, Empty, Block, ExprStmt, If, Switch, Case, Default, Label, While, Do, For, Goto, Continue, Break, Return, absent, present, Syntaxes, no_more, more}
use Rattle.c_tree.specs.Phrase.{phrase_then}
use Rattle.c_tree.specs.Tokens.{binary_sign, assign_sign, list_phrase, row_phrase, tokens_then}
use Rattle.c_grammar.specs.Symbols.{is_sign, is_keyword, is_word, after_sign, begins}
use Rattle.c_grammar.specs.Names.{Names}
use Rattle.c_grammar.specs.Specifiers.{Place, begins_tag, goes_on, begins_specifiers}
use Rattle.c_grammar.specs.Nonterminal.{WithName}
use Rattle.c_grammar.specs.Grammar.{IsExpr, IsDeclarator}
use Rattle.c_grammar.specs.Ways.DeclaratorSteps.{begins_declarator}
use Rattle.c_grammar.proofs.Front.{after_none, is_sign-true, is_keyword-true}
use Rattle.c_grammar.proofs.Begins.{differ, wider, begins_with, begins_expression, expression_begins, expression_no_specifier, declarator_begins}
use Rattle.c_grammar.proofs.CompleteSpecifiers.{fit_typed}
use Rattle.c_grammar.specs.UnitGrammar.Names.{declared, makes_types}
use Rattle.c_grammar.specs.UnitGrammar.Declarations.{IsEnumerator, IsMemberDeclarator, AreFullSpecifiers, AreFullItems, IsFullItem, IsMember, IsInitial, IsInitDeclarator, AreInitDeclarators, IsDeclaration}
use Rattle.c_grammar.specs.UnitGrammar.Statements.{IsStatement, AreStatements}
use Rattle.c_grammar.specs.Ways.StatementSteps.{begins_label, begins_declaration}
use Rattle.c_grammar.proofs.UnitGrammar.Readers.{or_first}

-- What has this property isn't that punctuator, which hasn't.
apart : (is : Symbol → Bool) (p : Punctuator) (t : Symbol) → is (Sign p) ≡ false → is t ≡ true → is_sign p t ≡ false
apart is p t n h = by (is_sign p t) refl
  where
    by : (b : Bool) → is_sign p t ≡ b → b ≡ false
    by false e = refl
    by true e = let q : is t ≡ is (Sign p) = ap is (is_sign-true p t e) in cc

apart_keyword : (is : Symbol → Bool) (k : Keyword) (t : Symbol) → is (Reserved k) ≡ false → is t ≡ true → is_keyword k t ≡ false
apart_keyword is k t n h = by (is_keyword k t) refl
  where
    by : (b : Bool) → is_keyword k t ≡ b → b ≡ false
    by false e = refl
    by true e = let q : is t ≡ is (Reserved k) = ap is (is_keyword-true k t e) in cc

pub front_no_sign : (is : Symbol → Bool) (p : Punctuator) (ts : List Symbol) → is (Sign p) ≡ false → begins is ts ≡ true → begins (is_sign p) ts ≡ false
front_no_sign is p ts n h = differ is (is_sign p) ts (λ t x. apart is p t n x) h

pub front_none : (is : Symbol → Bool) (p : Punctuator) (ts : List Symbol) → is (Sign p) ≡ false → begins is ts ≡ true → after_sign p ts ≡ None
front_none is p ts n h = after_none (is_sign p) ts (front_no_sign is p ts n h)

pub front_no_keyword : (is : Symbol → Bool) (k : Keyword) (ts : List Symbol) → is (Reserved k) ≡ false → begins is ts ≡ true → begins (is_keyword k) ts ≡ false
front_no_keyword is k ts n h = differ is (is_keyword k) ts (λ t x. apart_keyword is k t n x) h

-- specifiers
full_item_begins : (names : Names) (typed : Bool) (e : Syntax) (r : List Symbol) → IsFullItem names typed e → begins (goes_on names typed) (tokens_then e r) ≡ true
full_item_begins names typed (Part (SpecWord word)) r w = let F : Bool → Bool = λ b. b || begins_tag word in ap F w
full_item_begins names typed (Specifier (StructTag which_word.Struct tag)) r w = refl
full_item_begins names typed (Specifier (StructTag which_word.Union tag)) r w = refl
full_item_begins names typed (Specifier (StructBody which_word.Struct tag members)) r w = refl
full_item_begins names typed (Specifier (StructBody which_word.Union tag members)) r w = refl
full_item_begins names typed (Specifier (EnumTag tag)) r w = refl
full_item_begins names typed (Specifier (EnumBody tag enumerators comma)) r w = refl
full_item_begins names typed _ r w = absurd w

pub full_specifiers_begin : (place : Place) (names : Names) (e : Syntax) (r : List Symbol) → AreFullSpecifiers place names e → begins (begins_specifiers names) (tokens_then e r) ≡ true
full_specifiers_begin place names (Specifier (Specs no_more)) r w = let a = fit_typed place no_more w.1 in cc
full_specifiers_begin place names (Specifier (Specs (more e es))) r w = full_item_begins names false e (phrase_then (row_phrase es) r) w.0.0
full_specifiers_begin place names _ r w = absurd w

behind_item : (names : Names) (typed : Bool) (es : Syntaxes) (r : List Symbol) → AreFullItems names typed es → begins (is_sign marks.Colon) r ≡ false → begins (is_sign marks.Colon) (phrase_then (row_phrase es) r) ≡ false
behind_item names typed no_more r w h = h
behind_item names typed (more e es) r w h = front_no_sign (goes_on names typed) marks.Colon (tokens_then e (phrase_then (row_phrase es) r)) refl (full_item_begins names typed e (phrase_then (row_phrase es) r) w.0)

-- specifiers are no label
full_specifiers_no_label : (place : Place) (names : Names) (e : Syntax) (r : List Symbol) → AreFullSpecifiers place names e → begins (is_sign marks.Colon) r ≡ false → begins_label (tokens_then e r) ≡ false
full_specifiers_no_label place names (Specifier (Specs no_more)) r w h = let a = fit_typed place no_more w.1 in cc
full_specifiers_no_label place names (Specifier (Specs (more (Part (SpecWord (Word name))) es))) r w h = behind_item names true es r w.0.1 h
full_specifiers_no_label place names (Specifier (Specs (more (Part (SpecWord _)) es))) r w h = refl
full_specifiers_no_label place names (Specifier (Specs (more (Specifier (StructTag which_word.Struct tag)) es))) r w h = refl
full_specifiers_no_label place names (Specifier (Specs (more (Specifier (StructTag which_word.Union tag)) es))) r w h = refl
full_specifiers_no_label place names (Specifier (Specs (more (Specifier (StructBody which_word.Struct tag members)) es))) r w h = refl
full_specifiers_no_label place names (Specifier (Specs (more (Specifier (StructBody which_word.Union tag members)) es))) r w h = refl
full_specifiers_no_label place names (Specifier (Specs (more (Specifier (EnumTag tag)) es))) r w h = refl
full_specifiers_no_label place names (Specifier (Specs (more (Specifier (EnumBody tag enumerators comma)) es))) r w h = refl
full_specifiers_no_label place names (Specifier (Specs (more _ es))) r w h = absurd w.0.0
full_specifiers_no_label place names _ r w h = absurd w

-- declarators
pub named_begins : (names : Names) (e : Syntax) (r : List Symbol) → IsDeclarator WithName names e → begins (begins_declarator WithName) (tokens_then e r) ≡ true
named_begins names e r w = declarator_begins WithName names e r w

pub init_declarator_begins : (type : Bool) (names : Names) (e : Syntax) (r : List Symbol) → IsInitDeclarator type names e → begins (begins_declarator WithName) (tokens_then e r) ≡ true
init_declarator_begins type names (Declarator k) r w = named_begins names (Declarator k) r w
init_declarator_begins type names (Initializer (Init name declarator initial)) r w = named_begins names declarator _ w.1
init_declarator_begins type names _ r w = absurd w

-- a declarator of a member may begin with its width
abbrev pub begins_member_declarator : Symbol → Bool
begins_member_declarator t = begins_declarator WithName t || is_sign marks.Colon t

pub member_declarator_begins : (names : Names) (e : Syntax) (r : List Symbol) → IsMemberDeclarator names e → begins begins_member_declarator (tokens_then e r) ≡ true
member_declarator_begins names (Declarator k) r w = wider (begins_declarator WithName) begins_member_declarator (tokens_then (Declarator k) r) (λ t h. or_first (begins_declarator WithName t) (is_sign marks.Colon t) h) (named_begins names (Declarator k) r w)
member_declarator_begins names (Specifier (BitField absent width)) r w = refl
member_declarator_begins names (Specifier (BitField (present d) width)) r w = wider (begins_declarator WithName) begins_member_declarator (tokens_then (Specifier (BitField (present d) width)) r) (λ t h. or_first (begins_declarator WithName t) (is_sign marks.Colon t) h) (named_begins names d _ w.0)
member_declarator_begins names _ r w = absurd w

-- members
abbrev pub begins_member : Names → Symbol → Bool
begins_member names t = begins_specifiers names t || is_sign marks.Semicolon t

pub member_begins : (names : Names) (e : Syntax) (r : List Symbol) → IsMember names e → begins (begins_member names) (tokens_then e r) ≡ true
member_begins names (Outer Empty) r w = refl
member_begins names (Specifier (StructDeclaration specs declarators)) r w =
    wider (begins_specifiers names) (begins_member names) (tokens_then (Specifier (StructDeclaration specs declarators)) r)
    (λ t h. or_first (begins_specifiers names t) (is_sign marks.Semicolon t) h) (full_specifiers_begin _ names specs _ w.0)
member_begins names _ r w = absurd w

-- enumerators
pub enumerator_begins : (names : Names) (e : Syntax) (r : List Symbol) → IsEnumerator names e → begins is_word (tokens_then e r) ≡ true
enumerator_begins names (Part (Enumerator name value)) r w = w.0
enumerator_begins names _ r w = absurd w

-- initial values
abbrev pub begins_initial : Names → Symbol → Bool
begins_initial names t = begins_expression names t || is_sign marks.OpenBrace t

pub initial_begins : (names : Names) (e : Syntax) (r : List Symbol) → IsInitial names e → begins (begins_initial names) (tokens_then e r) ≡ true
initial_begins names (Initializer (Braces elements comma)) r w = refl
initial_begins names (Primary k) r w = wider (begins_expression names) (begins_initial names) (tokens_then (Primary k) r) (λ t h. or_first (begins_expression names t) (is_sign marks.OpenBrace t) h) (expression_begins names (Primary k) r w.1)
initial_begins names (Operation k) r w = wider (begins_expression names) (begins_initial names) (tokens_then (Operation k) r) (λ t h. or_first (begins_expression names t) (is_sign marks.OpenBrace t) h) (expression_begins names (Operation k) r w.1)
initial_begins names (Initializer _) r w = absurd w
initial_begins names _ r w = absurd w.1

-- declarations in blocks
declarators_no_colon : (type : Bool) (names : Names) (es : Syntaxes) (r : List Symbol) → AreInitDeclarators type names es → begins (is_sign marks.Colon) (phrase_then (list_phrase es) (Sign marks.Semicolon ∷ r)) ≡ false
declarators_no_colon type names no_more r w = refl
declarators_no_colon type names (more e es) r w = front_no_sign (begins_declarator WithName) marks.Colon (phrase_then (list_phrase (more e es)) (Sign marks.Semicolon ∷ r)) refl (init_declarator_begins type names e _ w.0)

both_hold : (a b : Bool) → a ≡ true → b ≡ false → (a && not b) ≡ true
both_hold true false g h = refl
both_hold true true g h = cc
both_hold false b g h = cc

pub declaration_begins : (names : Names) (e : Syntax) (r : List Symbol) → IsDeclaration names e → begins_declaration names (tokens_then e r) ≡ true
declaration_begins names (Outer (Declaration specs declarators)) r w =
    let X = phrase_then (list_phrase declarators) (Sign marks.Semicolon ∷ r) in
    both_hold (begins (begins_specifiers names) (tokens_then specs X)) (begins_label (tokens_then specs X))
    (full_specifiers_begin _ names specs X w.0)
    (full_specifiers_no_label _ names specs X w.0 (declarators_no_colon (makes_types specs) (declared specs names) declarators r w.1))
declaration_begins names _ r w = absurd w

-- expressions are no labels
binary_no_colon : (op : BinaryOp) → is_sign marks.Colon (Sign (binary_sign op)) ≡ false
binary_no_colon binary.Multiply = refl
binary_no_colon _ = refl

assign_no_colon : (op : AssignOp) → is_sign marks.Colon (Sign (assign_sign op)) ≡ false
assign_no_colon assign.Plain = refl
assign_no_colon _ = refl

pub expression_no_label : (names : Names) (e : Syntax) (t : Symbol) (ts : List Symbol) → IsExpr names e → is_sign marks.Colon t ≡ false → begins_label (tokens_then e (t ∷ ts)) ≡ false
expression_no_label names (Primary (Ident (Word name))) t ts w h = h
expression_no_label names (Primary (Ident _)) t ts w h = absurd w
expression_no_label names (Primary (Constant (IntLiteral value spelling))) t ts w h = refl
expression_no_label names (Primary (Constant (FloatLiteral end spelling))) t ts w h = refl
expression_no_label names (Primary (Constant (CharLiteral wide spelling))) t ts w h = refl
expression_no_label names (Primary (Constant _)) t ts w h = cc
expression_no_label names (Primary (StrConst [])) t ts w h = absurd w
expression_no_label names (Primary (StrConst (StringLiteral wide spelling ∷ ss))) t ts w h = refl
expression_no_label names (Primary (StrConst (_ ∷ ss))) t ts w h = let a = w.0 in cc
expression_no_label names (Primary (Paren inner)) t ts w h = refl
expression_no_label names (Primary (VaArg list of)) t ts w h = refl
expression_no_label names (Primary (Offsetof of member path)) t ts w h = refl
expression_no_label names (Operation (Index array index)) t ts w h = expression_no_label names array _ _ w.1 refl
expression_no_label names (Operation (Call callee arguments)) t ts w h = expression_no_label names callee _ _ w.1 refl
expression_no_label names (Operation (Member operand member)) t ts w h = expression_no_label names operand _ _ w.1 refl
expression_no_label names (Operation (Arrow operand member)) t ts w h = expression_no_label names operand _ _ w.1 refl
expression_no_label names (Operation (Unary unary.PostInc operand)) t ts w h = expression_no_label names operand _ _ w.1 refl
expression_no_label names (Operation (Unary unary.PostDec operand)) t ts w h = expression_no_label names operand _ _ w.1 refl
expression_no_label names (Operation (Unary _ operand)) t ts w h = refl
expression_no_label names (Operation (SizeofType of)) t ts w h = refl
expression_no_label names (Operation (Cast to operand)) t ts w h = refl
expression_no_label names (Operation (Binary op left right)) t ts w h = expression_no_label names left _ _ w.1 (binary_no_colon op)
expression_no_label names (Operation (Cond condition then otherwise)) t ts w h = expression_no_label names condition _ _ w.1 refl
expression_no_label names (Operation (Assign op left right)) t ts w h = expression_no_label names left _ _ w.1 (assign_no_colon op)
expression_no_label names _ t ts w h = absurd w

-- statements
abbrev opens : Keyword → Bool
opens words.If = true
opens words.Switch = true
opens words.Case = true
opens words.Default = true
opens words.While = true
opens words.Do = true
opens words.For = true
opens words.Goto = true
opens words.Continue = true
opens words.Break = true
opens words.Return = true
opens _ = false

abbrev pub begins_statement : Symbol → Bool
begins_statement (Reserved k) = begins_with k || opens k
begins_statement (Sign p) = nat_le (punctuator_code p) 8 || (is_sign marks.OpenBrace (Sign p) || is_sign marks.Semicolon (Sign p))
begins_statement _ = true

begins_expression_statement : (names : Names) (t : Symbol) → begins_expression names t ≡ true → begins_statement t ≡ true
begins_expression_statement names (Reserved k) h = or_first (begins_with k) (opens k) h
begins_expression_statement names (Sign p) h = or_first (nat_le (punctuator_code p) 8) (is_sign marks.OpenBrace (Sign p) || is_sign marks.Semicolon (Sign p)) h
begins_expression_statement names _ h = refl

pub statement_begins : (names : Names) (e : Syntax) (r : List Symbol) → IsStatement names e → begins begins_statement (tokens_then e r) ≡ true
statement_begins names (Statement (ExprStmt (present e))) r w = wider (begins_expression names) begins_statement (tokens_then e (Sign marks.Semicolon ∷ r)) (begins_expression_statement names) (expression_begins names e _ w)
statement_begins names (Statement (ExprStmt absent)) r w = refl
statement_begins names (Statement (Block items)) r w = refl
statement_begins names (Statement (If condition then otherwise)) r w = refl
statement_begins names (Statement (Switch value body)) r w = refl
statement_begins names (Statement (Case value body)) r w = refl
statement_begins names (Statement (Default body)) r w = refl
statement_begins names (Statement (Label (Word name) body)) r w = refl
statement_begins names (Statement (Label _ body)) r w = let a = w.0 in cc
statement_begins names (Iteration (While condition body)) r w = refl
statement_begins names (Iteration (Do body condition)) r w = refl
statement_begins names (Iteration (For first condition step body)) r w = refl
statement_begins names (Iteration _) r w = absurd w
statement_begins names (Jump (Goto label)) r w = refl
statement_begins names (Jump Continue) r w = refl
statement_begins names (Jump Break) r w = refl
statement_begins names (Jump (Return value)) r w = refl
statement_begins names _ r w = absurd w

not_first : (a b : Bool) → a ≡ false → (a && b) ≡ false
not_first true b h = cc
not_first false b h = refl

not_second : (a : Bool) → (a && false) ≡ false
not_second true = refl
not_second false = refl

pub statement_no_declaration : (names : Names) (e : Syntax) (r : List Symbol) → IsStatement names e → begins_declaration names (tokens_then e r) ≡ false
statement_no_declaration names (Statement (ExprStmt (present e))) r w =
    let X = tokens_then e (Sign marks.Semicolon ∷ r) in not_first (begins (begins_specifiers names) X) (not (begins_label X)) (expression_no_specifier names e (Sign marks.Semicolon ∷ r) w)
statement_no_declaration names (Statement (ExprStmt absent)) r w = refl
statement_no_declaration names (Statement (Block items)) r w = refl
statement_no_declaration names (Statement (If condition then otherwise)) r w = refl
statement_no_declaration names (Statement (Switch value body)) r w = refl
statement_no_declaration names (Statement (Case value body)) r w = refl
statement_no_declaration names (Statement (Default body)) r w = refl
statement_no_declaration names (Statement (Label (Word name) body)) r w = not_second (begins_specifiers names (Word name))
statement_no_declaration names (Statement (Label _ body)) r w = let a = w.0 in cc
statement_no_declaration names (Iteration (While condition body)) r w = refl
statement_no_declaration names (Iteration (Do body condition)) r w = refl
statement_no_declaration names (Iteration (For first condition step body)) r w = refl
statement_no_declaration names (Iteration _) r w = absurd w
statement_no_declaration names (Jump (Goto label)) r w = refl
statement_no_declaration names (Jump Continue) r w = refl
statement_no_declaration names (Jump Break) r w = refl
statement_no_declaration names (Jump (Return value)) r w = refl
statement_no_declaration names _ r w = absurd w

-- no `else` stands in front of statements that a block ends with
pub statements_no_else : (names : Names) (es : Syntaxes) (r : List Symbol) → AreStatements names es → begins (is_keyword words.Else) (phrase_then (row_phrase es) (Sign marks.CloseBrace ∷ r)) ≡ false
statements_no_else names no_more r w = refl
statements_no_else names (more e es) r w = front_no_keyword begins_statement words.Else (tokens_then e (phrase_then (row_phrase es) (Sign marks.CloseBrace ∷ r))) refl (statement_begins names e _ w.0)
