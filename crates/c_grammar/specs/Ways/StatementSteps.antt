-- A way to prove which trees are statements: steps of the plain reader, which finds those of `UnitGrammar/Statements`.
-- The steps that read statements, one for each line of the grammar, by the first symbol.
use Rattle.std.specs.Prelude.{ℕ, zero, suc, Bool, false, cond, not, ◌&&◌, List, [], ◌∷◌, length, Option, None, Some}
use Rattle.c_tree.specs.declared.keyword.Keyword.{Keyword}
use Rattle.c_tree.specs.declared.keyword.Keyword.TheVariants as words
use Rattle.c_tree.specs.declared.punctuator.Punctuator.{Punctuator}
use Rattle.c_tree.specs.declared.punctuator.Punctuator.TheVariants as marks
use Rattle.c_tree.specs.Symbol.{Symbol, Word, Reserved}
use Rattle.c_tree.specs.Syntax.{Statement, Iteration, Jump, Block, ExprStmt, If, Switch, Case, Default, Label, While, Do, For, Goto, Continue, Break, Return, MaybeSyntax, absent, present, Syntaxes, no_more, more}
use Rattle.c_grammar.specs.Symbols.{after_sign, after_keyword, begins, take_symbol, is_sign, is_word}
use Rattle.c_grammar.specs.Levels.{conditional_level, comma_level}
use Rattle.c_grammar.specs.Names.{Names}
use Rattle.c_grammar.specs.Specifiers.{begins_specifiers}
use Rattle.c_grammar.specs.Nonterminal.{Expression}
use Rattle.c_grammar.specs.Found.{◌>>=◌, if_there, Found, made, Reader}
use Rattle.c_grammar.specs.UnitGrammar.Names.{declared}
use Rattle.c_grammar.specs.UnitGrammar.Construct.{BlockDeclaration, OneStatement, ConstructReader}

-- a label in front: a name and ":"
abbrev pub begins_label : List Symbol → Bool
begins_label (Word name ∷ ts) = begins (is_sign marks.Colon) ts
begins_label _ = false

-- In a block a declaration begins here.
abbrev pub begins_declaration : Names → List Symbol → Bool
begins_declaration names ts = begins (begins_specifiers names) ts && not (begins_label ts)

-- statements up to "}", at most f of them with it
unfoldable pub read_statements : ConstructReader → Names → ℕ → List Symbol → Option (Syntaxes × List Symbol)
read_statements inner names zero ts = None
read_statements inner names (suc f) ts =
    if_there (after_sign marks.CloseBrace ts)
    (inner OneStatement names ts >>= λ e. read_statements inner names f e.1 >>= λ es. Some (more e.0 es.0, es.1))
    (λ rest. Some (no_more, rest))

-- declarations, each read under the names of those before it, and then statements up to "}"
unfoldable pub read_block_items : ConstructReader → Names → ℕ → List Symbol → Option (Syntaxes × List Symbol)
read_block_items inner names zero ts = None
read_block_items inner names (suc f) ts =
    cond (begins_declaration names ts)
    (inner BlockDeclaration names ts >>= λ e. read_block_items inner (declared e.0 names) f e.1 >>= λ es. Some (more e.0 es.0, es.1))
    (read_statements inner names (suc f) ts)

-- the rest of "{" declaration* statement* "}"
abbrev pub read_block_rest : ConstructReader → ℕ → Names → List Symbol → Option Found
read_block_rest inner m names ts = read_block_items inner names (length ts) ts >>= λ es. made m (Statement (Block es.0)) es.1

abbrev pub read_block : ConstructReader → ℕ → Names → List Symbol → Option Found
read_block inner m names ts = after_sign marks.OpenBrace ts >>= λ inside. read_block_rest inner m names inside

-- expr? and then this punctuator
abbrev pub read_maybe_expr : Reader → Names → Punctuator → List Symbol → Option (MaybeSyntax × List Symbol)
read_maybe_expr reader names p ts =
    if_there (after_sign p ts)
    (reader (Expression comma_level) names ts >>= λ e. after_sign p e.1 >>= λ rest. Some (present e.0, rest))
    (λ rest. Some (absent, rest))

-- "(" expr ")"
abbrev pub read_condition : Reader → Names → List Symbol → Option Found
read_condition reader names ts =
    after_sign marks.OpenParen ts >>= λ inside. reader (Expression comma_level) names inside >>= λ e.
    after_sign marks.CloseParen e.1 >>= λ rest. Some (e.0, rest)

-- expr? ";"
abbrev pub read_expression_statement : Reader → ℕ → Names → List Symbol → Option Found
read_expression_statement reader m names ts = read_maybe_expr reader names marks.Semicolon ts >>= λ e. made m (Statement (ExprStmt e.0)) e.1

-- the rest of NAME ":" statement
abbrev pub read_label : ConstructReader → ℕ → Names → Symbol → List Symbol → Option Found
read_label inner m names label ts = inner OneStatement names ts >>= λ body. made m (Statement (Label label body.0)) body.1

-- the rest of "if" "(" expr ")" statement ("else" statement)?
abbrev pub read_if : Reader → ConstructReader → ℕ → Names → List Symbol → Option Found
read_if reader inner m names ts =
    read_condition reader names ts >>= λ c. inner OneStatement names c.1 >>= λ y. if_there (after_keyword words.Else y.1)
    (made m (Statement (If c.0 y.0 absent)) y.1)
    (λ rest. inner OneStatement names rest >>= λ n. made m (Statement (If c.0 y.0 (present n.0))) n.1)

-- the rest of "switch" "(" expr ")" statement
abbrev pub read_switch : Reader → ConstructReader → ℕ → Names → List Symbol → Option Found
read_switch reader inner m names ts = read_condition reader names ts >>= λ c. inner OneStatement names c.1 >>= λ body. made m (Statement (Switch c.0 body.0)) body.1

-- the rest of "case" cond ":" statement
abbrev pub read_case : Reader → ConstructReader → ℕ → Names → List Symbol → Option Found
read_case reader inner m names ts =
    reader (Expression conditional_level) names ts >>= λ value. after_sign marks.Colon value.1 >>= λ rest.
    inner OneStatement names rest >>= λ body. made m (Statement (Case value.0 body.0)) body.1

-- the rest of "default" ":" statement
abbrev pub read_default : ConstructReader → ℕ → Names → List Symbol → Option Found
read_default inner m names ts = after_sign marks.Colon ts >>= λ rest. inner OneStatement names rest >>= λ body. made m (Statement (Default body.0)) body.1

-- the rest of "while" "(" expr ")" statement
abbrev pub read_while : Reader → ConstructReader → ℕ → Names → List Symbol → Option Found
read_while reader inner m names ts = read_condition reader names ts >>= λ c. inner OneStatement names c.1 >>= λ body. made m (Iteration (While c.0 body.0)) body.1

-- the rest of "do" statement "while" "(" expr ")" ";"
abbrev pub read_do : Reader → ConstructReader → ℕ → Names → List Symbol → Option Found
read_do reader inner m names ts =
    inner OneStatement names ts >>= λ body. after_keyword words.While body.1 >>= λ rest. read_condition reader names rest >>= λ c.
    after_sign marks.Semicolon c.1 >>= λ end. made m (Iteration (Do body.0 c.0)) end

-- the rest of "for" "(" expr? ";" expr? ";" expr? ")" statement
abbrev pub read_for : Reader → ConstructReader → ℕ → Names → List Symbol → Option Found
read_for reader inner m names ts =
    after_sign marks.OpenParen ts >>= λ inside. read_maybe_expr reader names marks.Semicolon inside >>= λ first.
    read_maybe_expr reader names marks.Semicolon first.1 >>= λ c. read_maybe_expr reader names marks.CloseParen c.1 >>= λ step.
    inner OneStatement names step.1 >>= λ body. made m (Iteration (For first.0 c.0 step.0 body.0)) body.1

-- the rest of "goto" NAME ";"
abbrev pub read_goto : ℕ → List Symbol → Option Found
read_goto m ts = take_symbol is_word ts >>= λ label. after_sign marks.Semicolon label.1 >>= λ rest. made m (Jump (Goto label.0)) rest

-- the rest of "continue" ";"
abbrev pub read_continue : ℕ → List Symbol → Option Found
read_continue m ts = after_sign marks.Semicolon ts >>= λ rest. made m (Jump Continue) rest

-- the rest of "break" ";"
abbrev pub read_break : ℕ → List Symbol → Option Found
read_break m ts = after_sign marks.Semicolon ts >>= λ rest. made m (Jump Break) rest

-- the rest of "return" expr? ";"
abbrev pub read_return : Reader → ℕ → Names → List Symbol → Option Found
read_return reader m names ts = read_maybe_expr reader names marks.Semicolon ts >>= λ value. made m (Jump (Return value.0)) value.1

-- a statement that begins with this keyword
abbrev pub read_by_keyword : Reader → ConstructReader → ℕ → Names → Keyword → List Symbol → Option Found
read_by_keyword reader inner m names words.If ts = read_if reader inner m names ts
read_by_keyword reader inner m names words.Switch ts = read_switch reader inner m names ts
read_by_keyword reader inner m names words.Case ts = read_case reader inner m names ts
read_by_keyword reader inner m names words.Default ts = read_default inner m names ts
read_by_keyword reader inner m names words.While ts = read_while reader inner m names ts
read_by_keyword reader inner m names words.Do ts = read_do reader inner m names ts
read_by_keyword reader inner m names words.For ts = read_for reader inner m names ts
read_by_keyword reader inner m names words.Goto ts = read_goto m ts
read_by_keyword reader inner m names words.Continue ts = read_continue m ts
read_by_keyword reader inner m names words.Break ts = read_break m ts
read_by_keyword reader inner m names words.Return ts = read_return reader m names ts
read_by_keyword reader inner m names k ts = read_expression_statement reader m names (Reserved k ∷ ts)

-- a block, or an expression as a statement
abbrev pub read_block_or_expression : Reader → ConstructReader → ℕ → Names → List Symbol → Option Found
read_block_or_expression reader inner m names ts = if_there (after_sign marks.OpenBrace ts) (read_expression_statement reader m names ts) (λ inside. read_block_rest inner m names inside)

abbrev pub read_statement : Reader → ConstructReader → ℕ → Names → List Symbol → Option Found
read_statement reader inner m names [] = None
read_statement reader inner m names (Word name ∷ ts) = if_there (after_sign marks.Colon ts) (read_expression_statement reader m names (Word name ∷ ts)) (λ rest. read_label inner m names (Word name) rest)
read_statement reader inner m names (Reserved k ∷ ts) = read_by_keyword reader inner m names k ts
read_statement reader inner m names (t ∷ ts) = read_block_or_expression reader inner m names (t ∷ ts)
