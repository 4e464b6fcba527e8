-- What is read as a statement or a block is one.
use Rattle.std.proofs.Common.{◌≡◌, ℕ, zero, suc, Bool, true, false, cond, List, [], ◌∷◌, length, Option, None, Some, inl, inr, ap, refl, ◌∙◌, subst}
use Rattle.c_tree.specs.declared.keyword.Keyword.{Keyword}
use Rattle.c_tree.specs.declared.keyword.Keyword.TheVariants as words
use Rattle.c_tree.specs.declared.punctuator.Punctuator.{Punctuator}
use Rattle.c_tree.specs.declared.punctuator.Punctuator.TheVariants as marks
use Rattle.c_tree.specs.Symbol.{Symbol, Word, Reserved, Sign}
use Rattle.c_tree.specs.Syntax.{Syntax, Statement, Iteration, Jump, Block, ExprStmt, If, Switch, Case, Default, Label, While, Do, For, Goto, Continue, Break, Return, MaybeSyntax, absent, present, Syntaxes, no_more, more}
use Rattle.c_tree.specs.Phrase.{phrase_then}
use Rattle.c_tree.specs.Tokens.{maybe_phrase, tokens_then}
use Rattle.c_grammar.specs.Symbols.{after_sign, after_keyword, begins, take_symbol, is_keyword, is_word}
use Rattle.c_grammar.specs.Levels.{conditional_level, comma_level}
use Rattle.c_grammar.specs.Names.{Names}
use Rattle.c_grammar.specs.Nonterminal.{Expression}
use Rattle.c_grammar.specs.Grammar.{IsExpr}
use Rattle.c_grammar.specs.Found.{if_there, Reader}
use Rattle.c_grammar.proofs.Options.{bound, chosen, which, parts}
use Rattle.c_grammar.proofs.Front.{after_none, take_symbol_some, taken, taken_keyword}
use Rattle.c_grammar.proofs.Readers.{IsSound as IsSoundBelow}
use Rattle.c_grammar.specs.UnitGrammar.Names.{declared}
use Rattle.c_grammar.specs.UnitGrammar.Construct.{BlockDeclaration, OneStatement, FunctionBody, ConstructReader}
use Rattle.c_grammar.specs.UnitGrammar.Statements.{IsMaybeExpr, takes_else, AreBlockItems, AreStatements}
use Rattle.c_grammar.specs.Ways.StatementSteps.{begins_declaration, read_statements, read_block_items, read_block_rest, read_block, read_maybe_expr, read_condition, read_expression_statement, read_label, read_if, read_switch, read_case, read_default, read_while, read_do, read_for, read_goto, read_return, read_by_keyword, read_statement}
use Rattle.c_grammar.proofs.UnitGrammar.Readers.{Stands, IsSound, finish, Row, row}

statements-sound : (inner : ConstructReader) (n : ℕ) (names : Names) (f : ℕ) (ts : List Symbol) (es : Syntaxes) (r : List Symbol)
    → IsSound inner n → read_statements inner names f ts ≡ Some (es, r) → Row (AreStatements names) marks.CloseBrace ts es r
unfolding read_statements
statements-sound inner n names zero ts es r s h = cc
statements-sound inner n names (suc f) ts es r s h =
    elim (chosen (after_sign marks.CloseBrace ts) _ _ _ h) as (λ _. Row (AreStatements names) marks.CloseBrace ts es r) [
      | inl o ↦
          let a = bound (inner OneStatement names ts) _ _ o.1 in
          let i = s OneStatement names ts a.0.0 a.0.1 a.1 in
          let b = bound (read_statements inner names f a.0.1) _ _ a.2 in
          let j = statements-sound inner n names f a.0.1 b.0.0 b.0.1 s b.1 in
          row (AreStatements names) marks.CloseBrace ts (more a.0.0 b.0.0) b.0.1 es r b.2
          (record { tokens = i.tokens ∙ ap (tokens_then a.0.0) j.tokens; well = (i.well, j.well) })
      | inr o ↦ row (AreStatements names) marks.CloseBrace ts no_more o.0 es r o.2 (record { tokens = taken marks.CloseBrace ts o.0 o.1; well = tt })
    ]

-- statements alone make a block
are_items : (names : Names) (es : Syntaxes) → AreStatements names es → AreBlockItems names es
are_items names no_more w = tt
are_items names (more e es) w = inr w

items-sound : (inner : ConstructReader) (n : ℕ) (names : Names) (f : ℕ) (ts : List Symbol) (es : Syntaxes) (r : List Symbol)
    → IsSound inner n → read_block_items inner names f ts ≡ Some (es, r) → Row (AreBlockItems names) marks.CloseBrace ts es r
unfolding read_block_items
items-sound inner n names zero ts es r s h = cc
items-sound inner n names (suc f) ts es r s h =
    elim (which (begins_declaration names ts) _ _ _ h) as (λ _. Row (AreBlockItems names) marks.CloseBrace ts es r) [
      | inl o ↦
          let a = bound (inner BlockDeclaration names ts) _ _ o.1 in
          let i = s BlockDeclaration names ts a.0.0 a.0.1 a.1 in
          let b = bound (read_block_items inner (declared a.0.0 names) f a.0.1) _ _ a.2 in
          let j = items-sound inner n (declared a.0.0 names) f a.0.1 b.0.0 b.0.1 s b.1 in
          row (AreBlockItems names) marks.CloseBrace ts (more a.0.0 b.0.0) b.0.1 es r b.2
          (record { tokens = i.tokens ∙ ap (tokens_then a.0.0) j.tokens; well = inl (i.well, j.well) })
      | inr o ↦ let i = statements-sound inner n names (suc f) ts es r s o.1 in record { tokens = i.tokens; well = are_items names es i.well }
    ]

pub block-sound : (inner : ConstructReader) (n m : ℕ) (names : Names) (ts : List Symbol) (e : Syntax) (r : List Symbol)
    → IsSound inner n → read_block inner m names ts ≡ Some (e, r) → Stands m FunctionBody names ts e r
block-sound inner n m names ts e r s h =
    let o = bound (after_sign marks.OpenBrace ts) _ _ h in
    let a = bound (read_block_items inner names (length o.0) o.0) _ _ o.2 in
    let i = items-sound inner n names (length o.0) o.0 a.0.0 a.0.1 s a.1 in
    finish m FunctionBody names ts (Statement (Block a.0.0)) a.0.1 e r a.2 (taken marks.OpenBrace ts o.0 o.1 ∙ ap (λ x. Sign marks.OpenBrace ∷ x) i.tokens) i.well tt

block_statement-sound : (inner : ConstructReader) (n m : ℕ) (names : Names) (all ts : List Symbol) (e : Syntax) (r : List Symbol)
    → IsSound inner n → all ≡ Sign marks.OpenBrace ∷ ts → read_block_rest inner m names ts ≡ Some (e, r) → Stands m OneStatement names all e r
block_statement-sound inner n m names all ts e r s k h =
    let a = bound (read_block_items inner names (length ts) ts) _ _ h in
    let i = items-sound inner n names (length ts) ts a.0.0 a.0.1 s a.1 in
    finish m OneStatement names all (Statement (Block a.0.0)) a.0.1 e r a.2 (k ∙ ap (λ x. Sign marks.OpenBrace ∷ x) i.tokens) i.well (λ t. absurd (cc t))

record Maybe (names : Names) (p : Punctuator) (ts : List Symbol) (e : MaybeSyntax) (r : List Symbol) : Type 0 where
  pub tokens : ts ≡ phrase_then (maybe_phrase e) (Sign p ∷ r)
  pub well : IsMaybeExpr names e

maybe : (names : Names) (p : Punctuator) (ts : List Symbol) (x : MaybeSyntax) (t : List Symbol) (e : MaybeSyntax) (r : List Symbol)
    → ◌≡◌ {A = Option (MaybeSyntax × List Symbol)} (Some (x, t)) (Some (e, r)) → Maybe names p ts x t → Maybe names p ts e r
maybe names p ts x t e r h l =
    let q = parts (x, t) (e, r) h in
    subst (λ y. Maybe names p ts y r) q.0 (subst (λ y. Maybe names p ts x y) q.1 l)

maybe-sound : (reader : Reader) (n : ℕ) (names : Names) (p : Punctuator) (ts : List Symbol) (e : MaybeSyntax) (r : List Symbol)
    → IsSoundBelow reader n → read_maybe_expr reader names p ts ≡ Some (e, r) → Maybe names p ts e r
maybe-sound reader n names p ts e r s h =
    elim (chosen (after_sign p ts) _ _ _ h) as (λ _. Maybe names p ts e r) [
      | inl o ↦
          let a = bound (reader (Expression comma_level) names ts) _ _ o.1 in
          let i = s (Expression comma_level) names ts a.0.0 a.0.1 a.1 in
          let b = bound (after_sign p a.0.1) _ _ a.2 in
          maybe names p ts (present a.0.0) b.0 e r b.2 (record { tokens = i.tokens ∙ ap (tokens_then a.0.0) (taken p a.0.1 b.0 b.1); well = i.well.1 })
      | inr o ↦ maybe names p ts absent o.0 e r o.2 (record { tokens = taken p ts o.0 o.1; well = tt })
    ]

record Condition (names : Names) (ts : List Symbol) (e : Syntax) (r : List Symbol) : Type 0 where
  pub tokens : ts ≡ Sign marks.OpenParen ∷ tokens_then e (Sign marks.CloseParen ∷ r)
  pub well : IsExpr names e

condition-sound : (reader : Reader) (n : ℕ) (names : Names) (ts : List Symbol) (e : Syntax) (r : List Symbol)
    → IsSoundBelow reader n → read_condition reader names ts ≡ Some (e, r) → Condition names ts e r
condition-sound reader n names ts e r s h =
    let a = bound (after_sign marks.OpenParen ts) _ _ h in
    let b = bound (reader (Expression comma_level) names a.0) _ _ a.2 in
    let i = s (Expression comma_level) names a.0 b.0.0 b.0.1 b.1 in
    let c = bound (after_sign marks.CloseParen b.0.1) _ _ b.2 in
    let q = parts (b.0.0, c.0) (e, r) c.2 in
    subst (λ x. Condition names ts x r) q.0 (record {
      tokens = taken marks.OpenParen ts a.0 a.1 ∙ ap (λ x. Sign marks.OpenParen ∷ x) (i.tokens ∙ ap (tokens_then b.0.0) (taken marks.CloseParen b.0.1 c.0 c.1 ∙ ap (λ x. Sign marks.CloseParen ∷ x) q.1));
      well = i.well.1;
    })

expression_statement-sound : (reader : Reader) (n m : ℕ) (names : Names) (ts : List Symbol) (e : Syntax) (r : List Symbol)
    → IsSoundBelow reader n → read_expression_statement reader m names ts ≡ Some (e, r) → Stands m OneStatement names ts e r
expression_statement-sound reader n m names ts e r s h =
    let a = bound (read_maybe_expr reader names marks.Semicolon ts) _ _ h in
    let i = maybe-sound reader n names marks.Semicolon ts a.0.0 a.0.1 s a.1 in
    finish m OneStatement names ts (Statement (ExprStmt a.0.0)) a.0.1 e r a.2 i.tokens i.well (λ t. absurd (cc t))

label-sound : (inner : ConstructReader) (n m : ℕ) (names : Names) (label : Symbol) (all ts : List Symbol) (e : Syntax) (r : List Symbol)
    → IsSound inner n → is_word label ≡ true → all ≡ label ∷ Sign marks.Colon ∷ ts → read_label inner m names label ts ≡ Some (e, r) → Stands m OneStatement names all e r
label-sound inner n m names label all ts e r s w k h =
    let a = bound (inner OneStatement names ts) _ _ h in
    let i = s OneStatement names ts a.0.0 a.0.1 a.1 in
    finish m OneStatement names all (Statement (Label label a.0.0)) a.0.1 e r a.2 (k ∙ ap (λ x. label ∷ Sign marks.Colon ∷ x) i.tokens) (w, i.well) i.last

-- What could take the `else` that follows doesn't take it.
not_taken : (k : Keyword) (taken : Bool) (ts r : List Symbol) → (taken ≡ true → begins (is_keyword k) ts ≡ false) → after_keyword k ts ≡ Some r → taken ≡ false
not_taken k false ts r l h = refl
not_taken k true ts r l h = let e = after_none (is_keyword k) ts (l refl) in cc

missing : (k : Keyword) (ts : List Symbol) → after_keyword k ts ≡ None → begins (is_keyword k) ts ≡ false
missing k [] h = refl
missing k (t ∷ ts) h = by (is_keyword k t) ts h
  where
    by : (b : Bool) (ts : List Symbol) → cond b (Some ts) None ≡ None → b ≡ false
    by true ts h = cc
    by false ts h = refl

if-sound : (reader : Reader) (inner : ConstructReader) (n m : ℕ) (names : Names) (all ts : List Symbol) (e : Syntax) (r : List Symbol)
    → IsSoundBelow reader n → IsSound inner n → all ≡ Reserved words.If ∷ ts → read_if reader inner m names ts ≡ Some (e, r) → Stands m OneStatement names all e r
if-sound reader inner n m names all ts e r s i k h =
    let c = bound (read_condition reader names ts) _ _ h in
    let d = condition-sound reader n names ts c.0.0 c.0.1 s c.1 in
    let a = bound (inner OneStatement names c.0.1) _ _ c.2 in
    let j = i OneStatement names c.0.1 a.0.0 a.0.1 a.1 in
    let begun : all ≡ Reserved words.If ∷ Sign marks.OpenParen ∷ tokens_then c.0.0 (Sign marks.CloseParen ∷ tokens_then a.0.0 a.0.1) =
    k ∙ ap (λ x. Reserved words.If ∷ x) (d.tokens ∙ ap (λ x. Sign marks.OpenParen ∷ tokens_then c.0.0 (Sign marks.CloseParen ∷ x)) j.tokens) in
    elim (chosen (after_keyword words.Else a.0.1) _ _ _ a.2) as (λ _. Stands m OneStatement names all e r) [
      | inl o ↦ let none = missing words.Else a.0.1 o.0 in finish m OneStatement names all (Statement (If c.0.0 a.0.0 absent)) a.0.1 e r o.1 begun (d.well, j.well, tt) (λ _. none)
      | inr o ↦
          let b = bound (inner OneStatement names o.0) _ _ o.2 in
          let z = i OneStatement names o.0 b.0.0 b.0.1 b.1 in
          let free : takes_else a.0.0 ≡ false = not_taken words.Else (takes_else a.0.0) a.0.1 o.0 j.last o.1 in
          finish m OneStatement names all (Statement (If c.0.0 a.0.0 (present b.0.0))) b.0.1 e r b.2
          (begun ∙ ap (λ x. Reserved words.If ∷ Sign marks.OpenParen ∷ tokens_then c.0.0 (Sign marks.CloseParen ∷ tokens_then a.0.0 x)) (taken_keyword words.Else a.0.1 o.0 o.1 ∙ ap (λ x. Reserved words.Else ∷ x) z.tokens))
          (d.well, j.well, (free, z.well)) z.last
    ]

switch-sound : (reader : Reader) (inner : ConstructReader) (n m : ℕ) (names : Names) (all ts : List Symbol) (e : Syntax) (r : List Symbol)
    → IsSoundBelow reader n → IsSound inner n → all ≡ Reserved words.Switch ∷ ts → read_switch reader inner m names ts ≡ Some (e, r) → Stands m OneStatement names all e r
switch-sound reader inner n m names all ts e r s i k h =
    let c = bound (read_condition reader names ts) _ _ h in
    let d = condition-sound reader n names ts c.0.0 c.0.1 s c.1 in
    let a = bound (inner OneStatement names c.0.1) _ _ c.2 in
    let j = i OneStatement names c.0.1 a.0.0 a.0.1 a.1 in
    finish m OneStatement names all (Statement (Switch c.0.0 a.0.0)) a.0.1 e r a.2
    (k ∙ ap (λ x. Reserved words.Switch ∷ x) (d.tokens ∙ ap (λ x. Sign marks.OpenParen ∷ tokens_then c.0.0 (Sign marks.CloseParen ∷ x)) j.tokens)) (d.well, j.well) j.last

case-sound : (reader : Reader) (inner : ConstructReader) (n m : ℕ) (names : Names) (all ts : List Symbol) (e : Syntax) (r : List Symbol)
    → IsSoundBelow reader n → IsSound inner n → all ≡ Reserved words.Case ∷ ts → read_case reader inner m names ts ≡ Some (e, r) → Stands m OneStatement names all e r
case-sound reader inner n m names all ts e r s i k h =
    let v = bound (reader (Expression conditional_level) names ts) _ _ h in
    let d = s (Expression conditional_level) names ts v.0.0 v.0.1 v.1 in
    let c = bound (after_sign marks.Colon v.0.1) _ _ v.2 in
    let a = bound (inner OneStatement names c.0) _ _ c.2 in
    let j = i OneStatement names c.0 a.0.0 a.0.1 a.1 in
    finish m OneStatement names all (Statement (Case v.0.0 a.0.0)) a.0.1 e r a.2
    (k ∙ ap (λ x. Reserved words.Case ∷ x) (d.tokens ∙ ap (tokens_then v.0.0) (taken marks.Colon v.0.1 c.0 c.1 ∙ ap (λ x. Sign marks.Colon ∷ x) j.tokens))) (d.well, j.well) j.last

default-sound : (inner : ConstructReader) (n m : ℕ) (names : Names) (all ts : List Symbol) (e : Syntax) (r : List Symbol)
    → IsSound inner n → all ≡ Reserved words.Default ∷ ts → read_default inner m names ts ≡ Some (e, r) → Stands m OneStatement names all e r
default-sound inner n m names all ts e r i k h =
    let c = bound (after_sign marks.Colon ts) _ _ h in
    let a = bound (inner OneStatement names c.0) _ _ c.2 in
    let j = i OneStatement names c.0 a.0.0 a.0.1 a.1 in
    finish m OneStatement names all (Statement (Default a.0.0)) a.0.1 e r a.2
    (k ∙ ap (λ x. Reserved words.Default ∷ x) (taken marks.Colon ts c.0 c.1 ∙ ap (λ x. Sign marks.Colon ∷ x) j.tokens)) j.well j.last

while-sound : (reader : Reader) (inner : ConstructReader) (n m : ℕ) (names : Names) (all ts : List Symbol) (e : Syntax) (r : List Symbol)
    → IsSoundBelow reader n → IsSound inner n → all ≡ Reserved words.While ∷ ts → read_while reader inner m names ts ≡ Some (e, r) → Stands m OneStatement names all e r
while-sound reader inner n m names all ts e r s i k h =
    let c = bound (read_condition reader names ts) _ _ h in
    let d = condition-sound reader n names ts c.0.0 c.0.1 s c.1 in
    let a = bound (inner OneStatement names c.0.1) _ _ c.2 in
    let j = i OneStatement names c.0.1 a.0.0 a.0.1 a.1 in
    finish m OneStatement names all (Iteration (While c.0.0 a.0.0)) a.0.1 e r a.2
    (k ∙ ap (λ x. Reserved words.While ∷ x) (d.tokens ∙ ap (λ x. Sign marks.OpenParen ∷ tokens_then c.0.0 (Sign marks.CloseParen ∷ x)) j.tokens)) (d.well, j.well) j.last

do-sound : (reader : Reader) (inner : ConstructReader) (n m : ℕ) (names : Names) (all ts : List Symbol) (e : Syntax) (r : List Symbol)
    → IsSoundBelow reader n → IsSound inner n → all ≡ Reserved words.Do ∷ ts → read_do reader inner m names ts ≡ Some (e, r) → Stands m OneStatement names all e r
do-sound reader inner n m names all ts e r s i k h =
    let a = bound (inner OneStatement names ts) _ _ h in
    let j = i OneStatement names ts a.0.0 a.0.1 a.1 in
    let w = bound (after_keyword words.While a.0.1) _ _ a.2 in
    let c = bound (read_condition reader names w.0) _ _ w.2 in
    let d = condition-sound reader n names w.0 c.0.0 c.0.1 s c.1 in
    let z = bound (after_sign marks.Semicolon c.0.1) _ _ c.2 in
    finish m OneStatement names all (Iteration (Do a.0.0 c.0.0)) z.0 e r z.2
    (k ∙ ap (λ x. Reserved words.Do ∷ x) (j.tokens ∙ ap (tokens_then a.0.0) (taken_keyword words.While a.0.1 w.0 w.1
    ∙ ap (λ x. Reserved words.While ∷ x) (d.tokens ∙ ap (λ x. Sign marks.OpenParen ∷ tokens_then c.0.0 (Sign marks.CloseParen ∷ x)) (taken marks.Semicolon c.0.1 z.0 z.1)))))
    (j.well, d.well) (λ t. absurd (cc t))

for-sound : (reader : Reader) (inner : ConstructReader) (n m : ℕ) (names : Names) (all ts : List Symbol) (e : Syntax) (r : List Symbol)
    → IsSoundBelow reader n → IsSound inner n → all ≡ Reserved words.For ∷ ts → read_for reader inner m names ts ≡ Some (e, r) → Stands m OneStatement names all e r
for-sound reader inner n m names all ts e r s i k h =
    let o = bound (after_sign marks.OpenParen ts) _ _ h in
    let a = bound (read_maybe_expr reader names marks.Semicolon o.0) _ _ o.2 in
    let x = maybe-sound reader n names marks.Semicolon o.0 a.0.0 a.0.1 s a.1 in
    let b = bound (read_maybe_expr reader names marks.Semicolon a.0.1) _ _ a.2 in
    let y = maybe-sound reader n names marks.Semicolon a.0.1 b.0.0 b.0.1 s b.1 in
    let c = bound (read_maybe_expr reader names marks.CloseParen b.0.1) _ _ b.2 in
    let z = maybe-sound reader n names marks.CloseParen b.0.1 c.0.0 c.0.1 s c.1 in
    let d = bound (inner OneStatement names c.0.1) _ _ c.2 in
    let j = i OneStatement names c.0.1 d.0.0 d.0.1 d.1 in
    finish m OneStatement names all (Iteration (For a.0.0 b.0.0 c.0.0 d.0.0)) d.0.1 e r d.2
    (k ∙ ap (λ t. Reserved words.For ∷ t) (taken marks.OpenParen ts o.0 o.1 ∙ ap (λ t. Sign marks.OpenParen ∷ t) (x.tokens
    ∙ ap (λ t. phrase_then (maybe_phrase a.0.0) (Sign marks.Semicolon ∷ t)) (y.tokens
    ∙ ap (λ t. phrase_then (maybe_phrase b.0.0) (Sign marks.Semicolon ∷ t)) (z.tokens
    ∙ ap (λ t. phrase_then (maybe_phrase c.0.0) (Sign marks.CloseParen ∷ t)) j.tokens)))))
    (x.well, y.well, z.well, j.well) j.last

goto-sound : (m : ℕ) (names : Names) (all ts : List Symbol) (e : Syntax) (r : List Symbol)
    → all ≡ Reserved words.Goto ∷ ts → read_goto m ts ≡ Some (e, r) → Stands m OneStatement names all e r
goto-sound m names all ts e r k h =
    let a = bound (take_symbol is_word ts) _ _ h in
    let t = take_symbol_some is_word ts a.0.0 a.0.1 a.1 in
    let b = bound (after_sign marks.Semicolon a.0.1) _ _ a.2 in
    finish m OneStatement names all (Jump (Goto a.0.0)) b.0 e r b.2
    (k ∙ ap (λ x. Reserved words.Goto ∷ x) (t.0 ∙ ap (λ x. a.0.0 ∷ x) (taken marks.Semicolon a.0.1 b.0 b.1))) t.1 (λ t. absurd (cc t))

return-sound : (reader : Reader) (n m : ℕ) (names : Names) (all ts : List Symbol) (e : Syntax) (r : List Symbol)
    → IsSoundBelow reader n → all ≡ Reserved words.Return ∷ ts → read_return reader m names ts ≡ Some (e, r) → Stands m OneStatement names all e r
return-sound reader n m names all ts e r s k h =
    let a = bound (read_maybe_expr reader names marks.Semicolon ts) _ _ h in
    let i = maybe-sound reader n names marks.Semicolon ts a.0.0 a.0.1 s a.1 in
    finish m OneStatement names all (Jump (Return a.0.0)) a.0.1 e r a.2 (k ∙ ap (λ x. Reserved words.Return ∷ x) i.tokens) i.well (λ t. absurd (cc t))

by_keyword-sound : (reader : Reader) (inner : ConstructReader) (n m : ℕ) (names : Names) (k : Keyword) (ts : List Symbol) (e : Syntax) (r : List Symbol)
    → IsSoundBelow reader n → IsSound inner n → read_by_keyword reader inner m names k ts ≡ Some (e, r) → Stands m OneStatement names (Reserved k ∷ ts) e r
by_keyword-sound reader inner n m names words.If ts e r s i h = if-sound reader inner n m names _ ts e r s i refl h
by_keyword-sound reader inner n m names words.Switch ts e r s i h = switch-sound reader inner n m names _ ts e r s i refl h
by_keyword-sound reader inner n m names words.Case ts e r s i h = case-sound reader inner n m names _ ts e r s i refl h
by_keyword-sound reader inner n m names words.Default ts e r s i h = default-sound inner n m names _ ts e r i refl h
by_keyword-sound reader inner n m names words.While ts e r s i h = while-sound reader inner n m names _ ts e r s i refl h
by_keyword-sound reader inner n m names words.Do ts e r s i h = do-sound reader inner n m names _ ts e r s i refl h
by_keyword-sound reader inner n m names words.For ts e r s i h = for-sound reader inner n m names _ ts e r s i refl h
by_keyword-sound reader inner n m names words.Goto ts e r s i h = goto-sound m names _ ts e r refl h
by_keyword-sound reader inner n m names words.Continue ts e r s i h =
    let b = bound (after_sign marks.Semicolon ts) _ _ h in
    finish m OneStatement names _ (Jump Continue) b.0 e r b.2 (ap (λ x. Reserved words.Continue ∷ x) (taken marks.Semicolon ts b.0 b.1)) tt (λ t. absurd (cc t))
by_keyword-sound reader inner n m names words.Break ts e r s i h =
    let b = bound (after_sign marks.Semicolon ts) _ _ h in
    finish m OneStatement names _ (Jump Break) b.0 e r b.2 (ap (λ x. Reserved words.Break ∷ x) (taken marks.Semicolon ts b.0 b.1)) tt (λ t. absurd (cc t))
by_keyword-sound reader inner n m names words.Return ts e r s i h = return-sound reader n m names _ ts e r s refl h
by_keyword-sound reader inner n m names k ts e r s i h = expression_statement-sound reader n m names (Reserved k ∷ ts) e r s h

by_brace-sound : (reader : Reader) (inner : ConstructReader) (n m : ℕ) (names : Names) (ts : List Symbol) (e : Syntax) (r : List Symbol)
    → IsSoundBelow reader n → IsSound inner n → if_there (after_sign marks.OpenBrace ts) (read_expression_statement reader m names ts) (λ inside. read_block_rest inner m names inside) ≡ Some (e, r) → Stands m OneStatement names ts e r
by_brace-sound reader inner n m names ts e r s i h =
    elim (chosen (after_sign marks.OpenBrace ts) _ _ _ h) as (λ _. Stands m OneStatement names ts e r) [
      | inl o ↦ expression_statement-sound reader n m names ts e r s o.1
      | inr o ↦ block_statement-sound inner n m names ts o.0 e r i (taken marks.OpenBrace ts o.0 o.1) o.2
    ]

pub statement-sound : (reader : Reader) (inner : ConstructReader) (n m : ℕ) (names : Names) (ts : List Symbol) (e : Syntax) (r : List Symbol)
    → IsSoundBelow reader n → IsSound inner n → read_statement reader inner m names ts ≡ Some (e, r) → Stands m OneStatement names ts e r
statement-sound reader inner n m names [] e r s i h = cc
statement-sound reader inner n m names (Word name ∷ ts) e r s i h =
    elim (chosen (after_sign marks.Colon ts) _ _ _ h) as (λ _. Stands m OneStatement names (Word name ∷ ts) e r) [
      | inl o ↦ expression_statement-sound reader n m names (Word name ∷ ts) e r s o.1
      | inr o ↦ label-sound inner n m names (Word name) (Word name ∷ ts) o.0 e r i refl (ap (λ x. Word name ∷ x) (taken marks.Colon ts o.0 o.1)) o.2
    ]
statement-sound reader inner n m names (Reserved k ∷ ts) e r s i h = by_keyword-sound reader inner n m names k ts e r s i h
statement-sound reader inner n m names (t ∷ ts) e r s i h = by_brace-sound reader inner n m names (t ∷ ts) e r s i h
