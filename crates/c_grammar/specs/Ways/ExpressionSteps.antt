-- A way to prove which trees are expressions: steps of the plain reader, which finds those of `Grammar`.
-- The steps that read expressions, one for each line of the grammar; the lines of the binary operators are one step over
-- their levels.
use Rattle.std.specs.Prelude.{ℕ, zero, suc, ◌+◌, ◌-◌, Bool, cond, ◌||◌, nat_le, nat_eq, List, [], ◌∷◌, length, Option, None, Some}
use Rattle.c_tree.specs.declared.keyword.Keyword.TheVariants as words
use Rattle.c_tree.specs.declared.operator.AssignOp.{AssignOp}
use Rattle.c_tree.specs.declared.operator.BinaryOp.{BinaryOp}
use Rattle.c_tree.specs.declared.operator.UnaryOp.{UnaryOp}
use Rattle.c_tree.specs.declared.operator.UnaryOp.TheVariants as unary
use Rattle.c_tree.specs.declared.punctuator.Punctuator.TheVariants as marks
use Rattle.c_tree.specs.Symbol.{Symbol, Word, Reserved, Sign, IntLiteral, FloatLiteral, CharLiteral, StringLiteral}
use Rattle.c_tree.specs.Syntax.{Syntax, Primary, Operation, Part, Ident, Constant, StrConst, Paren, VaArg, Offsetof, Index, Call, Member, Arrow, Unary, SizeofType, Cast, Binary, Cond, Assign, MemberDesignator, IndexDesignator, Syntaxes, no_more, more}
use Rattle.c_grammar.specs.Symbols.{after_sign, after_keyword, begins, take_symbol, run_of, after_run, is_sign, is_word, is_string}
use Rattle.c_grammar.specs.Levels.{unary_level, cast_level, conditional_level, assignment_level, comma_level, level_of, operand_level, grade, binary_of, assign_of, prefix_of}
use Rattle.c_grammar.specs.Names.{Names, is_type}
use Rattle.c_grammar.specs.Specifiers.{begins_specifiers}
use Rattle.c_grammar.specs.Nonterminal.{Expression, NameOfType}
use Rattle.c_grammar.specs.Found.{◌>>=◌, if_there, Found, made, Reader}

-- "." NAME | "[" expr "]"
abbrev pub read_designator : Reader → Names → List Symbol → Option Found
read_designator inner names ts =
    if_there (after_sign marks.Dot ts)
    (after_sign marks.OpenBracket ts >>= λ inside. inner (Expression comma_level) names inside >>= λ e. after_sign marks.CloseBracket e.1 >>= λ rest. Some (Part (IndexDesignator e.0), rest))
    (λ rest. take_symbol is_word rest >>= λ name. Some (Part (MemberDesignator name.0), name.1))

-- designators up to ")", at most f of them with it
unfoldable pub read_path : Reader → Names → ℕ → List Symbol → Option (Syntaxes × List Symbol)
read_path inner names zero ts = None
read_path inner names (suc f) ts =
    if_there (after_sign marks.CloseParen ts)
    (read_designator inner names ts >>= λ e. read_path inner names f e.1 >>= λ es. Some (more e.0 es.0, es.1))
    (λ rest. Some (no_more, rest))

-- "(" assign "," typename ")"
abbrev pub read_va_arg : Reader → ℕ → Names → List Symbol → Option Found
read_va_arg inner m names ts =
    after_sign marks.OpenParen ts >>= λ inside. inner (Expression assignment_level) names inside >>= λ e.
    after_sign marks.Comma e.1 >>= λ rest. inner NameOfType names rest >>= λ t.
    after_sign marks.CloseParen t.1 >>= λ end. made m (Primary (VaArg e.0 t.0)) end

-- "(" typename "," NAME designator* ")"
abbrev pub read_offsetof : Reader → ℕ → Names → List Symbol → Option Found
read_offsetof inner m names ts =
    after_sign marks.OpenParen ts >>= λ inside. inner NameOfType names inside >>= λ t.
    after_sign marks.Comma t.1 >>= λ rest. take_symbol is_word rest >>= λ name.
    read_path inner names (length name.1) name.1 >>= λ path. made m (Primary (Offsetof t.0 name.0 path.0)) path.1

-- "(" expr ")"
abbrev pub read_paren : Reader → ℕ → Names → List Symbol → Option Found
read_paren inner m names ts =
    after_sign marks.OpenParen ts >>= λ inside. inner (Expression comma_level) names inside >>= λ e.
    after_sign marks.CloseParen e.1 >>= λ rest. made m (Primary (Paren e.0)) rest

-- a name that is no type here, a constant, string literals, "(" expr ")", or one of the two built-in forms
abbrev pub read_primary : Reader → ℕ → Names → List Symbol → Option Found
read_primary inner m names [] = None
read_primary inner m names (Word name ∷ ts) = cond (is_type names name) None (made m (Primary (Ident (Word name))) ts)
read_primary inner m names (IntLiteral value spelling ∷ ts) = made m (Primary (Constant (IntLiteral value spelling))) ts
read_primary inner m names (FloatLiteral end spelling ∷ ts) = made m (Primary (Constant (FloatLiteral end spelling))) ts
read_primary inner m names (CharLiteral wide spelling ∷ ts) = made m (Primary (Constant (CharLiteral wide spelling))) ts
read_primary inner m names (StringLiteral wide spelling ∷ ts) = made m (Primary (StrConst (StringLiteral wide spelling ∷ run_of is_string ts))) (after_run is_string ts)
read_primary inner m names (Sign p ∷ ts) = read_paren inner m names (Sign p ∷ ts)
read_primary inner m names (Reserved k ∷ ts) =
    if_there (after_keyword words.BuiltinVaArg (Reserved k ∷ ts))
    (after_keyword words.BuiltinOffsetof (Reserved k ∷ ts) >>= λ rest. read_offsetof inner m names rest)
    (λ rest. read_va_arg inner m names rest)

-- assign ("," assign)* ")", at most f of them
unfoldable pub read_more_arguments : Reader → Names → ℕ → List Symbol → Option (Syntaxes × List Symbol)
read_more_arguments inner names zero ts = None
read_more_arguments inner names (suc f) ts =
    inner (Expression assignment_level) names ts >>= λ e. if_there (after_sign marks.Comma e.1)
    (after_sign marks.CloseParen e.1 >>= λ rest. Some (more e.0 no_more, rest))
    (λ others. read_more_arguments inner names f others >>= λ es. Some (more e.0 es.0, es.1))

-- (assign ("," assign)*)? ")"
abbrev pub read_arguments : Reader → Names → List Symbol → Option (Syntaxes × List Symbol)
read_arguments inner names ts = if_there (after_sign marks.CloseParen ts) (read_more_arguments inner names (length ts) ts) (λ rest. Some (no_more, rest))

-- this symbol goes on with a postfix expression
abbrev pub begins_postfix : Symbol → Bool
begins_postfix t =
    is_sign marks.OpenBracket t || is_sign marks.OpenParen t || is_sign marks.Dot t || is_sign marks.Arrow t || is_sign marks.Increment t || is_sign marks.Decrement t

-- what a postfix expression becomes by the operator behind it
abbrev pub read_postfix_operator : Reader → ℕ → Names → Syntax → List Symbol → Option Found
read_postfix_operator inner m names operand ts =
    if_there (after_sign marks.OpenBracket ts)
    (if_there (after_sign marks.OpenParen ts)
    (if_there (after_sign marks.Dot ts)
    (if_there (after_sign marks.Arrow ts)
    (if_there (after_sign marks.Increment ts)
    (after_sign marks.Decrement ts >>= λ rest. made m (Operation (Unary unary.PostDec operand)) rest)
    (λ rest. made m (Operation (Unary unary.PostInc operand)) rest))
    (λ rest. take_symbol is_word rest >>= λ name. made m (Operation (Arrow operand name.0)) name.1))
    (λ rest. take_symbol is_word rest >>= λ name. made m (Operation (Member operand name.0)) name.1))
    (λ inside. read_arguments inner names inside >>= λ es. made m (Operation (Call operand es.0)) es.1))
    (λ inside. inner (Expression comma_level) names inside >>= λ e. after_sign marks.CloseBracket e.1 >>= λ rest. made m (Operation (Index operand e.0)) rest)

-- at most f operators behind a postfix expression
unfoldable pub read_postfix_operators : Reader → ℕ → Names → ℕ → Syntax → List Symbol → Option Found
read_postfix_operators inner m names zero operand ts = cond (begins begins_postfix ts) None (Some (operand, ts))
read_postfix_operators inner m names (suc f) operand ts =
    cond (begins begins_postfix ts)
    (read_postfix_operator inner m names operand ts >>= λ e. read_postfix_operators inner m names f e.0 e.1)
    (Some (operand, ts))

abbrev pub read_postfix : Reader → ℕ → Names → List Symbol → Option Found
read_postfix inner m names ts = read_primary inner m names ts >>= λ e. read_postfix_operators inner m names m e.0 e.1

-- what follows a "(" behind which a type name begins
abbrev pub after_type_paren : Names → List Symbol → Option (List Symbol)
after_type_paren names ts = after_sign marks.OpenParen ts >>= λ inside. cond (begins (begins_specifiers names) inside) (Some inside) None

-- the rest of sizeof unary | sizeof "(" typename ")"
abbrev pub read_sizeof : Reader → ℕ → Names → List Symbol → Option Found
read_sizeof inner m names ts =
    if_there (after_type_paren names ts)
    (inner (Expression unary_level) names ts >>= λ e. made m (Operation (Unary unary.Sizeof e.0)) e.1)
    (λ inside. inner NameOfType names inside >>= λ t. after_sign marks.CloseParen t.1 >>= λ rest. made m (Operation (SizeofType t.0)) rest)

abbrev pub take_prefix : List Symbol → Option (UnaryOp × List Symbol)
take_prefix [] = None
take_prefix (t ∷ ts) = prefix_of t >>= λ op. Some (op, ts)

abbrev pub read_unary : Reader → ℕ → Names → List Symbol → Option Found
read_unary inner m names ts =
    if_there (take_prefix ts)
    (if_there (after_keyword words.Sizeof ts)
    (read_postfix inner m names ts)
    (λ rest. read_sizeof inner m names rest))
    (λ op. inner (Expression (operand_level op.0)) names op.1 >>= λ e. made m (Operation (Unary op.0 e.0)) e.1)

abbrev pub read_cast : Reader → ℕ → Names → List Symbol → Option Found
read_cast inner m names ts =
    if_there (after_type_paren names ts) (read_unary inner m names ts)
    (λ inside. inner NameOfType names inside >>= λ t. after_sign marks.CloseParen t.1 >>= λ rest.
    inner (Expression cast_level) names rest >>= λ e. made m (Operation (Cast t.0 e.0)) e.1)

-- a binary operator of this level in front, and what follows it
abbrev pub take_binary : ℕ → List Symbol → Option (BinaryOp × List Symbol)
take_binary level [] = None
take_binary level (t ∷ ts) = binary_of t >>= λ op. cond (nat_eq (level_of op) level) (Some (op, ts)) None

-- at most f operators of this level, each with its right operand, behind the left operand
unfoldable pub read_chain : Reader → ℕ → Names → ℕ → ℕ → Syntax → List Symbol → Option Found
read_chain inner m names level zero left ts = if_there (take_binary level ts) (Some (left, ts)) (λ _. None)
read_chain inner m names level (suc f) left ts =
    if_there (take_binary level ts) (Some (left, ts))
    (λ op. inner (Expression (level - 1)) names op.1 >>= λ right. made m (Operation (Binary op.0 left right.0)) right.1 >>= λ e. read_chain inner m names level f e.0 e.1)

-- casts and the binary operators of the next k levels above them
unfoldable pub read_binary : Reader → ℕ → Names → ℕ → List Symbol → Option Found
read_binary inner m names zero ts = read_cast inner m names ts
read_binary inner m names (suc k) ts = read_binary inner m names k ts >>= λ left. read_chain inner m names (k + 3) m left.0 left.1

abbrev pub read_conditional : Reader → ℕ → Names → List Symbol → Option Found
read_conditional inner m names ts =
    read_binary inner m names 10 ts >>= λ c. if_there (after_sign marks.Question c.1) (Some (c.0, c.1))
    (λ rest. inner (Expression comma_level) names rest >>= λ y. after_sign marks.Colon y.1 >>= λ others.
    inner (Expression conditional_level) names others >>= λ n. made m (Operation (Cond c.0 y.0 n.0)) n.1)

abbrev pub take_assign : List Symbol → Option (AssignOp × List Symbol)
take_assign [] = None
take_assign (t ∷ ts) = assign_of t >>= λ op. Some (op, ts)

-- a conditional expression, or an assignment to one that is unary
abbrev pub read_assignment : Reader → ℕ → Names → List Symbol → Option Found
read_assignment inner m names ts =
    read_conditional inner m names ts >>= λ left. if_there (take_assign left.1) (Some (left.0, left.1))
    (λ op. cond (nat_le (grade left.0) unary_level)
    (inner (Expression assignment_level) names op.1 >>= λ right. made m (Operation (Assign op.0 left.0 right.0)) right.1)
    None)

abbrev pub read_commas : Reader → ℕ → Names → List Symbol → Option Found
read_commas inner m names ts = read_assignment inner m names ts >>= λ left. read_chain inner m names comma_level m left.0 left.1

-- an expression at this level
abbrev pub read_expression : Reader → ℕ → ℕ → Names → List Symbol → Option Found
read_expression inner m level names ts =
    cond (nat_le comma_level level) (read_commas inner m names ts)
    (cond (nat_le assignment_level level) (read_assignment inner m names ts)
    (cond (nat_le conditional_level level) (read_conditional inner m names ts)
    (cond (nat_le cast_level level) (read_binary inner m names (level - cast_level) ts)
    (cond (nat_le unary_level level) (read_unary inner m names ts) (read_postfix inner m names ts)))))
