-- Statements and blocks are read, where no `else` follows that they would take.
use Rattle.std.proofs.Common.{◌≡◌, ℕ, zero, suc, ◌<◌, ◌≤◌, true, false, List, [], ◌∷◌, length, Some, inl, inr, refl, arith}
use Rattle.c_tree.specs.declared.keyword.Keyword.TheVariants as words
use Rattle.c_tree.specs.declared.operator.BinaryOp.TheVariants as binary
use Rattle.c_tree.specs.declared.operator.UnaryOp.TheVariants as unary
use Rattle.c_tree.specs.declared.punctuator.Punctuator.{Punctuator}
use Rattle.c_tree.specs.declared.punctuator.Punctuator.TheVariants as marks
use Rattle.c_tree.specs.Codes.{punctuator_code}
use Rattle.c_tree.specs.Symbol.{Symbol, Word, Reserved, Sign}
use Rattle.c_tree.specs.Syntax.{Syntax, OperationSyntax, Operation, Unary, Binary, Statement, Iteration, Jump, Block, ExprStmt, If, Switch, Case, Default, Label, While, Do, For, Goto, Continue, Break, Return, MaybeSyntax, absent, present, Syntaxes, no_more, more}
use Rattle.c_tree.specs.Height.{height_of, height_maybe, height_in}
use Rattle.c_tree.specs.Phrase.{phrase_then}
use Rattle.c_tree.specs.Tokens.{maybe_phrase, row_phrase, else_phrase, tokens_then}
use Rattle.c_grammar.specs.Symbols.{is_sign, is_keyword, is_word, after_keyword, begins}
use Rattle.c_grammar.specs.Levels.{conditional_level, comma_level, operation_grade, grade}
use Rattle.c_grammar.specs.Names.{Names}
use Rattle.c_grammar.specs.Nonterminal.{Expression}
use Rattle.c_grammar.specs.Grammar.{IsExpr}
use Rattle.c_grammar.specs.Found.{◌>>=◌, if_there, made, Reader}
use Rattle.c_grammar.specs.Following.{Stops}
use Rattle.c_grammar.proofs.Options.{made_low}
use Rattle.c_grammar.proofs.Front.{after_none, take_symbol_here}
use Rattle.c_grammar.proofs.Readers.{Knows as KnowsBelow}
use Rattle.c_grammar.proofs.Longer.{count}
use Rattle.c_grammar.proofs.Begins.{begins_expression, expression_begins, expression_no_sign}
use Rattle.c_grammar.specs.UnitGrammar.Names.{declared}
use Rattle.c_grammar.specs.UnitGrammar.Construct.{BlockDeclaration, OneStatement, ConstructReader}
use Rattle.c_grammar.specs.UnitGrammar.Statements.{IsMaybeExpr, IsStatement, IsElse, takes_else, AreBlockItems, AreStatements}
use Rattle.c_grammar.specs.UnitGrammar.Grammar.{IsBlock}
use Rattle.c_grammar.specs.UnitGrammar.Following.{LeavesNoElse}
use Rattle.c_grammar.specs.Ways.StatementSteps.{begins_label, read_statements, read_block_items, read_block_rest, read_block, read_maybe_expr, read_condition, read_expression_statement, read_statement}
use Rattle.c_grammar.proofs.UnitGrammar.Readers.{Knows}
use Rattle.c_grammar.proofs.UnitGrammar.Fronts.{front_none, declaration_begins, expression_no_label, begins_statement, statement_begins, statement_no_declaration, statements_no_else}
use Rattle.c_grammar.proofs.UnitGrammar.Longer.{longer_items}

statements-complete : (inner : ConstructReader) (n : ℕ) (names : Names) (f : ℕ) (es : Syntaxes) (r : List Symbol) → Knows inner n → AreStatements names es → height_in es ≤ n → count es < f
    → read_statements inner names f (phrase_then (row_phrase es) (Sign marks.CloseBrace ∷ r)) ≡ Some (es, r)
unfolding read_statements
statements-complete inner n names zero es r k w h c = absurd (omega arith)
statements-complete inner n names (suc f) no_more r k w h c = refl
statements-complete inner n names (suc f) (more e es) r k w h c =
    let X = phrase_then (row_phrase es) (Sign marks.CloseBrace ∷ r) in
    rw (
      front_none begins_statement marks.CloseBrace (tokens_then e X) refl (statement_begins names e X w.0),
      k OneStatement names e X w.0 (omega arith) (λ _. statements_no_else names es r w.1),
      statements-complete inner n names f es r k w.1 (omega arith) (omega arith),
    ) refl

items-complete : (inner : ConstructReader) (n : ℕ) (names : Names) (f : ℕ) (es : Syntaxes) (r : List Symbol) → Knows inner n → AreBlockItems names es → height_in es ≤ n → count es < f
    → read_block_items inner names f (phrase_then (row_phrase es) (Sign marks.CloseBrace ∷ r)) ≡ Some (es, r)
unfolding read_block_items
items-complete inner n names zero es r k w h c = absurd (omega arith)
items-complete inner n names (suc f) no_more r k w h c = statements-complete inner n names (suc f) no_more r k tt h c
items-complete inner n names (suc f) (more e es) r k (inl w) h c =
    let X = phrase_then (row_phrase es) (Sign marks.CloseBrace ∷ r) in
    rw (
      declaration_begins names e X w.0,
      k BlockDeclaration names e X w.0 (omega arith) tt,
      items-complete inner n (declared e names) f es r k w.1 (omega arith) (omega arith),
    ) refl
items-complete inner n names (suc f) (more e es) r k (inr w) h c =
    let X = phrase_then (row_phrase es) (Sign marks.CloseBrace ∷ r) in
    rw (statement_no_declaration names e X w.0) (statements-complete inner n names (suc f) (more e es) r k w h c)

block_rest-complete : (inner : ConstructReader) (n : ℕ) (names : Names) (es : Syntaxes) (r : List Symbol) → Knows inner n → AreBlockItems names es → height_of (Statement (Block es)) ≤ suc n
    → read_block_rest inner (suc n) names (phrase_then (row_phrase es) (Sign marks.CloseBrace ∷ r)) ≡ Some (Statement (Block es), r)
block_rest-complete inner n names es r k w h =
    let X = phrase_then (row_phrase es) (Sign marks.CloseBrace ∷ r) in
    let l = longer_items names es (Sign marks.CloseBrace ∷ r) w in
    rw (items-complete inner n names (length X) es r k w (omega arith) (omega (arith, l))) (made_low (suc n) (Statement (Block es)) r h)

pub block-complete : (inner : ConstructReader) (n : ℕ) (names : Names) (e : Syntax) (r : List Symbol) → Knows inner n → IsBlock names e → height_of e ≤ suc n → read_block inner (suc n) names (tokens_then e r) ≡ Some (e, r)
block-complete inner n names (Statement (Block es)) r k w h = block_rest-complete inner n names es r k w h
block-complete inner n names _ r k w h = absurd w

-- an expression stands at the level of commas
operation_level : (k : OperationSyntax) → operation_grade k ≤ comma_level
operation_level (Unary unary.PostInc operand) = omega arith
operation_level (Unary _ operand) = omega arith
operation_level (Binary binary.Multiply left right) = omega arith
operation_level (Binary _ left right) = omega arith
operation_level _ = omega arith

any_level : (e : Syntax) → grade e ≤ comma_level
any_level (Operation k) = operation_level k
any_level _ = omega arith

-- an expression ends before ";" and ")"
maybe-complete : (reader : Reader) (n : ℕ) (names : Names) (p : Punctuator) (e : MaybeSyntax) (r : List Symbol) → KnowsBelow reader n → IsMaybeExpr names e → height_maybe e ≤ n → 8 < punctuator_code p → Stops comma_level (Sign p ∷ r) → is_sign p (Sign p) ≡ true
    → read_maybe_expr reader names p (phrase_then (maybe_phrase e) (Sign p ∷ r)) ≡ Some (e, r)
maybe-complete reader n names p absent r k w h c s q = rw q refl
maybe-complete reader n names p (present e) r k w h c s q = rw (expression_no_sign p names e (Sign p ∷ r) c w, k (Expression comma_level) names e (Sign p ∷ r) (any_level e, w) h s, q) refl

condition-complete : (reader : Reader) (n : ℕ) (names : Names) (e : Syntax) (r : List Symbol) → KnowsBelow reader n → IsExpr names e → height_of e ≤ n → read_condition reader names (Sign marks.OpenParen ∷ tokens_then e (Sign marks.CloseParen ∷ r)) ≡ Some (e, r)
condition-complete reader n names e r k w h = rw (k (Expression comma_level) names e (Sign marks.CloseParen ∷ r) (any_level e, w) h (omega arith)) refl

-- what begins as an expression and not as a label is read as an expression
expression_read : (reader : Reader) (inner : ConstructReader) (m : ℕ) (names : Names) (ts : List Symbol) → begins (begins_expression names) ts ≡ true → begins_label ts ≡ false → read_statement reader inner m names ts ≡ read_expression_statement reader m names ts
expression_read reader inner m names [] b l = cc
expression_read reader inner m names (Word name ∷ ts) b l = rw (after_none (is_sign marks.Colon) ts l) refl
expression_read reader inner m names (Reserved words.Sizeof ∷ ts) b l = refl
expression_read reader inner m names (Reserved words.BuiltinVaArg ∷ ts) b l = refl
expression_read reader inner m names (Reserved words.BuiltinOffsetof ∷ ts) b l = refl
expression_read reader inner m names (Reserved _ ∷ ts) b l = cc
expression_read reader inner m names (Sign p ∷ ts) b l = rw (front_none (begins_expression names) marks.OpenBrace (Sign p ∷ ts) refl b) refl
expression_read reader inner m names (_ ∷ ts) b l = refl

-- the end of an `if`
else-complete : (inner : ConstructReader) (n : ℕ) (names : Names) (c y : Syntax) (o : MaybeSyntax) (r : List Symbol) → Knows inner n → IsElse names (takes_else y) o → height_of (Statement (If c y o)) ≤ suc n → LeavesNoElse (Statement (If c y o)) r
    → if_there (after_keyword words.Else (phrase_then (else_phrase o) r)) (made (suc n) (Statement (If c y absent)) (phrase_then (else_phrase o) r)) (λ rest. inner OneStatement names rest >>= λ e. made (suc n) (Statement (If c y (present e.0))) e.1) ≡ Some (Statement (If c y o), r)
else-complete inner n names c y absent r k w h s = rw (after_none (is_keyword words.Else) r (s refl)) (made_low (suc n) (Statement (If c y absent)) r h)
else-complete inner n names c y (present e) r k w h s = rw (k OneStatement names e r w.1 (omega arith) s) (made_low (suc n) (Statement (If c y (present e))) r h)

-- what stands behind the first branch of an `if` is no `else` of it
before_else : (names : Names) (c y : Syntax) (o : MaybeSyntax) (r : List Symbol) → IsElse names (takes_else y) o → LeavesNoElse (Statement (If c y o)) r → LeavesNoElse y (phrase_then (else_phrase o) r)
before_else names c y absent r w s t = s refl
before_else names c y (present e) r w s t = let a = w.0 in absurd (cc t)

pub statement-complete : (reader : Reader) (inner : ConstructReader) (n : ℕ) (names : Names) (e : Syntax) (r : List Symbol) → KnowsBelow reader n → Knows inner n → IsStatement names e → height_of e ≤ suc n → LeavesNoElse e r
    → read_statement reader inner (suc n) names (tokens_then e r) ≡ Some (e, r)
statement-complete reader inner n names (Statement (Block items)) r k i w h s = block_rest-complete inner n names items r i w h
statement-complete reader inner n names (Statement (ExprStmt absent)) r k i w h s = made_low (suc n) (Statement (ExprStmt absent)) r h
statement-complete reader inner n names (Statement (ExprStmt (present e))) r k i w h s =
    rw (
      expression_read reader inner (suc n) names (tokens_then e (Sign marks.Semicolon ∷ r)) (expression_begins names e (Sign marks.Semicolon ∷ r) w) (expression_no_label names e (Sign marks.Semicolon) r w refl),
      maybe-complete reader n names marks.Semicolon (present e) r k w (omega arith) (omega arith) (omega arith) refl,
    ) (made_low (suc n) (Statement (ExprStmt (present e))) r h)
statement-complete reader inner n names (Statement (If c y o)) r k i w h s =
    let X = phrase_then (else_phrase o) r in
    rw (condition-complete reader n names c (tokens_then y X) k w.0 (omega arith), i OneStatement names y X w.1 (omega arith) (before_else names c y o r w.2 s)) (else-complete inner n names c y o r i w.2 h s)
statement-complete reader inner n names (Statement (Switch c body)) r k i w h s =
    rw (condition-complete reader n names c (tokens_then body r) k w.0 (omega arith), i OneStatement names body r w.1 (omega arith) s) (made_low (suc n) (Statement (Switch c body)) r h)
statement-complete reader inner n names (Statement (Case value body)) r k i w h s =
    rw (k (Expression conditional_level) names value (Sign marks.Colon ∷ tokens_then body r) w.0 (omega arith) (omega arith), i OneStatement names body r w.1 (omega arith) s) (made_low (suc n) (Statement (Case value body)) r h)
statement-complete reader inner n names (Statement (Default body)) r k i w h s = rw (i OneStatement names body r w (omega arith) s) (made_low (suc n) (Statement (Default body)) r h)
statement-complete reader inner n names (Statement (Label (Word name) body)) r k i w h s = rw (i OneStatement names body r w.1 (omega arith) s) (made_low (suc n) (Statement (Label (Word name) body)) r h)
statement-complete reader inner n names (Statement (Label _ body)) r k i w h s = let a = w.0 in cc
statement-complete reader inner n names (Iteration (While c body)) r k i w h s =
    rw (condition-complete reader n names c (tokens_then body r) k w.0 (omega arith), i OneStatement names body r w.1 (omega arith) s) (made_low (suc n) (Iteration (While c body)) r h)
statement-complete reader inner n names (Iteration (Do body c)) r k i w h s =
    rw (i OneStatement names body (Reserved words.While ∷ Sign marks.OpenParen ∷ tokens_then c (Sign marks.CloseParen ∷ Sign marks.Semicolon ∷ r)) w.0 (omega arith) (λ _. refl), condition-complete reader n names c (Sign marks.Semicolon ∷ r) k w.1 (omega arith))
    (made_low (suc n) (Iteration (Do body c)) r h)
statement-complete reader inner n names (Iteration (For a b c body)) r k i w h s =
    let Z = Sign marks.CloseParen ∷ tokens_then body r in
    let Y = phrase_then (maybe_phrase c) Z in
    rw (
      maybe-complete reader n names marks.Semicolon a (phrase_then (maybe_phrase b) (Sign marks.Semicolon ∷ Y)) k w.0 (omega arith) (omega arith) (omega arith) refl,
      maybe-complete reader n names marks.Semicolon b Y k w.1 (omega arith) (omega arith) (omega arith) refl,
      maybe-complete reader n names marks.CloseParen c (tokens_then body r) k w.2 (omega arith) (omega arith) (omega arith) refl,
      i OneStatement names body r w.3 (omega arith) s,
    ) (made_low (suc n) (Iteration (For a b c body)) r h)
statement-complete reader inner n names (Iteration _) r k i w h s = absurd w
statement-complete reader inner n names (Jump (Goto label)) r k i w h s = rw (take_symbol_here is_word label (Sign marks.Semicolon ∷ r) w) (made_low (suc n) (Jump (Goto label)) r h)
statement-complete reader inner n names (Jump Continue) r k i w h s = made_low (suc n) (Jump Continue) r h
statement-complete reader inner n names (Jump Break) r k i w h s = made_low (suc n) (Jump Break) r h
statement-complete reader inner n names (Jump (Return value)) r k i w h s =
    rw (maybe-complete reader n names marks.Semicolon value r k w (omega arith) (omega arith) (omega arith) refl) (made_low (suc n) (Jump (Return value)) r h)
statement-complete reader inner n names _ r k i w h s = absurd w
