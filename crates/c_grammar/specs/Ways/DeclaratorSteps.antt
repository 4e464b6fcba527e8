-- A way to prove which trees are declarators: steps of the plain reader, which finds those of `Grammar`.
-- The steps that read declarators, their suffixes, parameters and type names.
use Rattle.std.specs.Prelude.{ℕ, zero, suc, Bool, true, false, cond, ◌||◌, ◌&&◌, List, [], ◌∷◌, length, Option, None, Some}
use Rattle.c_tree.specs.declared.keyword.Keyword.TheVariants as words
use Rattle.c_tree.specs.declared.punctuator.Punctuator.TheVariants as marks
use Rattle.c_tree.specs.Symbol.{Symbol, Sign}
use Rattle.c_tree.specs.Syntax.{Specifier, Declarator, Part, TypeName, Param, Named, Nested, Unnamed, ArrayBound, VoidParams, Params, absent, present, Syntaxes, no_more, more}
use Rattle.c_grammar.specs.Symbols.{after_sign, after_keyword, begins, take_symbol, run_of, after_run, is_sign, is_word}
use Rattle.c_grammar.specs.Levels.{assignment_level}
use Rattle.c_grammar.specs.Names.{Names, with_param}
use Rattle.c_grammar.specs.Specifiers.{InTypeName, InParam, begins_specifiers}
use Rattle.c_grammar.specs.Nonterminal.{Form, Abstract, Either, may_name, may_omit, Expression, Specifiers, DeclaratorIn, Parameter}
use Rattle.c_grammar.specs.Grammar.{is_pointer_word, is_bound_word, is_nothing}
use Rattle.c_grammar.specs.Found.{◌>>=◌, if_there, Found, made, Reader}

-- the rest of "[" (qual | static)* assign? "]" behind its words
abbrev pub read_bound : Reader → Names → List Symbol → List Symbol → Option Found
read_bound inner names words ts =
    if_there (after_sign marks.CloseBracket ts)
    (inner (Expression assignment_level) names ts >>= λ e. after_sign marks.CloseBracket e.1 >>= λ rest. Some (Part (ArrayBound words (present e.0)), rest))
    (λ rest. Some (Part (ArrayBound words absent), rest))

-- param ("," param)* ("," "...")? ")", at most f of them; each is read under the names of those before it
unfoldable pub read_params : Reader → Names → ℕ → List Symbol → Option (Syntaxes × Bool × List Symbol)
read_params inner names zero ts = None
read_params inner names (suc f) ts =
    inner Parameter names ts >>= λ p. if_there (after_sign marks.Comma p.1)
    (after_sign marks.CloseParen p.1 >>= λ rest. Some (more p.0 no_more, false, rest))
    (λ others. if_there (after_sign marks.Ellipsis others)
    (read_params inner (with_param p.0 names) f others >>= λ ps. Some (more p.0 ps.0, ps.1, ps.2))
    (λ end. after_sign marks.CloseParen end >>= λ rest. Some (more p.0 no_more, true, rest)))

-- "void" ")"
abbrev pub after_void : List Symbol → Option (List Symbol)
after_void ts = after_keyword words.Void ts >>= λ rest. after_sign marks.CloseParen rest

-- the rest of "(" params ")"
abbrev pub read_param_list : Reader → Names → List Symbol → Option Found
read_param_list inner names ts =
    if_there (after_sign marks.CloseParen ts)
    (if_there (after_void ts)
    (read_params inner names (length ts) ts >>= λ ps. Some (Part (Params ps.0 ps.1), ps.2))
    (λ rest. Some (Part VoidParams, rest)))
    (λ rest. Some (Part (Params no_more false), rest))

abbrev pub begins_suffix : Symbol → Bool
begins_suffix t = is_sign marks.OpenBracket t || is_sign marks.OpenParen t

-- a bound in brackets or parameters in parentheses
abbrev pub read_suffix : Reader → Names → List Symbol → Option Found
read_suffix inner names ts =
    if_there (after_sign marks.OpenBracket ts)
    (after_sign marks.OpenParen ts >>= λ inside. read_param_list inner names inside)
    (λ inside. read_bound inner names (run_of is_bound_word inside) (after_run is_bound_word inside))

-- at most f suffixes
unfoldable pub read_suffixes : Reader → Names → ℕ → List Symbol → Option (Syntaxes × List Symbol)
read_suffixes inner names zero ts = cond (begins begins_suffix ts) None (Some (no_more, ts))
read_suffixes inner names (suc f) ts =
    cond (begins begins_suffix ts)
    (read_suffix inner names ts >>= λ e. read_suffixes inner names f e.1 >>= λ es. Some (more e.0 es.0, es.1))
    (Some (no_more, ts))

-- the stars and qualifiers in front, and what follows them
abbrev pub pointers_of : List Symbol → List Symbol
pointers_of ts = if_there (after_sign marks.Star ts) [] (λ rest. Sign marks.Star ∷ run_of is_pointer_word rest)

abbrev pub after_pointers : List Symbol → List Symbol
after_pointers ts = if_there (after_sign marks.Star ts) ts (λ rest. after_run is_pointer_word rest)

-- Behind "(" parameters begin, or there are none.
abbrev pub begins_params : Names → Symbol → Bool
begins_params names t = is_sign marks.CloseParen t || begins_specifiers names t

-- the name that a declarator of this form has in front
abbrev pub take_name : Form → List Symbol → Option (Symbol × List Symbol)
take_name form ts = cond (may_name form) (take_symbol is_word ts) None

-- what follows a "(" that is no list of parameters
abbrev pub after_nesting : Form → Names → List Symbol → Option (List Symbol)
after_nesting form names ts = after_sign marks.OpenParen ts >>= λ inside. cond (may_omit form && begins (begins_params names) inside) None (Some inside)

abbrev pub read_named : Reader → ℕ → Names → List Symbol → Symbol → List Symbol → Option Found
read_named inner m names pointers name ts =
    read_suffixes inner names (length ts) ts >>= λ es. made m (Declarator (Named pointers name es.0)) es.1

abbrev pub read_nested : Reader → ℕ → Form → Names → List Symbol → List Symbol → Option Found
read_nested inner m form names pointers inside =
    inner (DeclaratorIn form) names inside >>= λ d. after_sign marks.CloseParen d.1 >>= λ rest.
    read_suffixes inner names (length rest) rest >>= λ es. made m (Declarator (Nested pointers d.0 es.0)) es.1

abbrev pub read_unnamed : Reader → ℕ → Form → Names → List Symbol → List Symbol → Option Found
read_unnamed inner m form names pointers ts =
    cond (may_omit form)
    (read_suffixes inner names (length ts) ts >>= λ es. cond (is_nothing pointers es.0) None (made m (Declarator (Unnamed pointers es.0)) es.1))
    None

-- a declarator behind its pointers
abbrev pub read_direct : Reader → ℕ → Form → Names → List Symbol → List Symbol → Option Found
read_direct inner m form names pointers ts =
    if_there (take_name form ts)
    (if_there (after_nesting form names ts)
    (read_unnamed inner m form names pointers ts)
    (λ inside. read_nested inner m form names pointers inside))
    (λ name. read_named inner m names pointers name.0 name.1)

abbrev pub read_declarator : Reader → ℕ → Form → Names → List Symbol → Option Found
read_declarator inner m form names ts = read_direct inner m form names (pointers_of ts) (after_pointers ts)

-- a declarator of a form that may lack a name begins with this symbol
abbrev pub begins_declarator : Form → Symbol → Bool
begins_declarator form t = is_sign marks.Star t || begins_suffix t || (may_name form && is_word t)

abbrev pub read_type_name : Reader → ℕ → Names → List Symbol → Option Found
read_type_name inner m names ts =
    inner (Specifiers InTypeName) names ts >>= λ specs. cond (begins (begins_declarator Abstract) specs.1)
    (inner (DeclaratorIn Abstract) names specs.1 >>= λ d. made m (Specifier (TypeName specs.0 (present d.0))) d.1)
    (made m (Specifier (TypeName specs.0 absent)) specs.1)

abbrev pub read_param : Reader → ℕ → Names → List Symbol → Option Found
read_param inner m names ts =
    inner (Specifiers InParam) names ts >>= λ specs. cond (begins (begins_declarator Either) specs.1)
    (inner (DeclaratorIn Either) names specs.1 >>= λ d. made m (Specifier (Param specs.0 (present d.0))) d.1)
    (made m (Specifier (Param specs.0 absent)) specs.1)
