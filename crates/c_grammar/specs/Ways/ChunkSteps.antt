-- A way to prove which trees are chunks: steps of the plain reader, which finds those of `UnitGrammar/Grammar`.
-- The steps that read a chunk: what stands behind the first declarator says whether it is a function or a declaration.
use Rattle.std.specs.Prelude.{ℕ, false, cond, List, Option, None}
use Rattle.c_tree.specs.declared.punctuator.Punctuator.TheVariants as marks
use Rattle.c_tree.specs.Symbol.{Symbol}
use Rattle.c_tree.specs.Syntax.{Syntax, Outer, Declaration, Function, Empty, no_more}
use Rattle.c_grammar.specs.Symbols.{after_sign, begins, is_sign}
use Rattle.c_grammar.specs.Names.{Names, name_of, with_name, with_params, params_of}
use Rattle.c_grammar.specs.Specifiers.{InDeclaration}
use Rattle.c_grammar.specs.Nonterminal.{WithName, DeclaratorIn}
use Rattle.c_grammar.specs.Found.{◌>>=◌, if_there, Found, made, Reader}
use Rattle.c_grammar.specs.UnitGrammar.Names.{declared}
use Rattle.c_grammar.specs.UnitGrammar.Construct.{SpecifiersIn, FunctionBody, ConstructReader}
use Rattle.c_grammar.specs.UnitGrammar.Control.{is_controlled}
use Rattle.c_grammar.specs.UnitGrammar.Grammar.{may_define}
use Rattle.c_grammar.specs.Ways.DeclarationSteps.{read_declaration_rest}

-- a function behind its specifiers and its declarator, under the names that the specifiers leave; its body is read under its own
-- name and its parameters too
abbrev pub read_function : ConstructReader → ℕ → Names → Syntax → Syntax → List Symbol → Option Found
read_function inner m names specs d ts =
    cond (may_define specs)
    (params_of d >>= λ params. inner FunctionBody (with_params params (with_name (name_of d) false names)) ts >>= λ body.
    cond (is_controlled body.0) (made m (Outer (Function specs d body.0)) body.1) None)
    None

-- a declaration or a function behind its specifiers and the first declarator, under the names that the specifiers leave
abbrev pub read_definition : Reader → ConstructReader → ℕ → Names → Syntax → Syntax → List Symbol → Option Found
read_definition reader inner m names specs d ts =
    cond (begins (is_sign marks.OpenBrace) ts) (read_function inner m names specs d ts) (read_declaration_rest reader inner m names specs d ts)

-- ";" | declaration | specs declarator block
abbrev pub read_chunk : Reader → ConstructReader → ℕ → Names → List Symbol → Option Found
read_chunk reader inner m names ts =
    if_there (after_sign marks.Semicolon ts)
    (inner (SpecifiersIn InDeclaration) names ts >>= λ specs. if_there (after_sign marks.Semicolon specs.1)
    (reader (DeclaratorIn WithName) (declared specs.0 names) specs.1 >>= λ d. read_definition reader inner m (declared specs.0 names) specs.0 d.0 d.1)
    (λ rest. made m (Outer (Declaration specs.0 no_more)) rest))
    (λ rest. made m (Outer Empty) rest)
