-- A way to prove which trees are declarations: steps of the plain reader, which finds those of `UnitGrammar/Declarations`.
-- The steps that read initial values and declarations.
use Rattle.std.specs.Prelude.{ℕ, zero, suc, Bool, true, false, cond, List, ◌∷◌, length, Option, None, Some}
use Rattle.c_tree.specs.declared.punctuator.Punctuator.TheVariants as marks
use Rattle.c_tree.specs.Symbol.{Symbol, Word}
use Rattle.c_tree.specs.Syntax.{Syntax, Primary, Initializer, Outer, Ident, Init, Braces, Declaration, Syntaxes, no_more, more}
use Rattle.c_grammar.specs.Symbols.{after_sign, begins, is_sign}
use Rattle.c_grammar.specs.Levels.{assignment_level}
use Rattle.c_grammar.specs.Names.{Names, name_of, with_name}
use Rattle.c_grammar.specs.Specifiers.{InDeclaration}
use Rattle.c_grammar.specs.Nonterminal.{WithName, Expression, DeclaratorIn}
use Rattle.c_grammar.specs.Found.{◌>>=◌, if_there, Found, made, Reader}
use Rattle.c_grammar.specs.UnitGrammar.Names.{declared, declared_name, makes_types}
use Rattle.c_grammar.specs.UnitGrammar.Construct.{SpecifiersIn, BracedInitials, ConstructReader}

-- assign | "{" (initial,+ ","?)? "}"
abbrev pub read_initial : Reader → ConstructReader → Names → List Symbol → Option Found
read_initial reader inner names ts = cond (begins (is_sign marks.OpenBrace) ts) (inner BracedInitials names ts) (reader (Expression assignment_level) names ts)

-- initial ("," initial)* ","? "}", at most f of them
unfoldable pub read_initials : Reader → ConstructReader → Names → ℕ → List Symbol → Option (Syntaxes × Bool × List Symbol)
read_initials reader inner names zero ts = None
read_initials reader inner names (suc f) ts =
    read_initial reader inner names ts >>= λ e. if_there (after_sign marks.Comma e.1)
    (after_sign marks.CloseBrace e.1 >>= λ rest. Some (more e.0 no_more, false, rest))
    (λ others. if_there (after_sign marks.CloseBrace others)
    (read_initials reader inner names f others >>= λ es. Some (more e.0 es.0, es.1, es.2))
    (λ rest. Some (more e.0 no_more, true, rest)))

-- "{" (initial,+ ","?)? "}"
abbrev pub read_braces : Reader → ConstructReader → ℕ → Names → List Symbol → Option Found
read_braces reader inner m names ts =
    after_sign marks.OpenBrace ts >>= λ inside. if_there (after_sign marks.CloseBrace inside)
    (read_initials reader inner names (length inside) inside >>= λ es. made m (Initializer (Braces es.0 es.1)) es.2)
    (λ rest. made m (Initializer (Braces no_more false)) rest)

-- the rest of declarator ("=" initial)?
abbrev pub read_initialized : Reader → ConstructReader → Bool → Names → Syntax → List Symbol → Option Found
read_initialized reader inner type names d ts =
    if_there (after_sign marks.Assign ts) (Some (d, ts))
    (λ rest. name_of d >>= λ name. read_initial reader inner ((name, type) ∷ names) rest >>= λ e. Some (Initializer (Init (Primary (Ident (Word name))) d e.0), e.1))

-- the rest of initdecl ("," initdecl)* ";" behind the first declarator, at most f of them; each is read under the names of
-- those before it
unfoldable pub read_init_declarators : Reader → ConstructReader → Bool → Names → ℕ → Syntax → List Symbol → Option (Syntaxes × List Symbol)
read_init_declarators reader inner type names zero d ts = None
read_init_declarators reader inner type names (suc f) d ts =
    read_initialized reader inner type names d ts >>= λ e. if_there (after_sign marks.Comma e.1)
    (after_sign marks.Semicolon e.1 >>= λ rest. Some (more e.0 no_more, rest))
    (λ others. reader (DeclaratorIn WithName) (with_name (declared_name e.0) type names) others >>= λ next.
    read_init_declarators reader inner type (with_name (declared_name e.0) type names) f next.0 next.1 >>= λ es. Some (more e.0 es.0, es.1))

-- a declaration behind its specifiers and the first declarator, under the names that the specifiers leave
abbrev pub read_declaration_rest : Reader → ConstructReader → ℕ → Names → Syntax → Syntax → List Symbol → Option Found
read_declaration_rest reader inner m names specs d ts =
    read_init_declarators reader inner (makes_types specs) names (length ts) d ts >>= λ es. made m (Outer (Declaration specs es.0)) es.1

-- specs (initdecl,+)? ";"
abbrev pub read_declaration : Reader → ConstructReader → ℕ → Names → List Symbol → Option Found
read_declaration reader inner m names ts =
    inner (SpecifiersIn InDeclaration) names ts >>= λ specs. if_there (after_sign marks.Semicolon specs.1)
    (reader (DeclaratorIn WithName) (declared specs.0 names) specs.1 >>= λ d. read_declaration_rest reader inner m (declared specs.0 names) specs.0 d.0 d.1)
    (λ rest. made m (Outer (Declaration specs.0 no_more)) rest)
