-- A way to prove which trees are specifiers with bodies: steps of the plain reader, which finds those of `UnitGrammar/Declarations`.
-- The steps that read specifiers with bodies: structures, unions, enumerations, and their members and enumerators.
use Rattle.std.specs.Prelude.{ℕ, zero, suc, Bool, true, false, cond, List, length, Option, None, Some}
use Rattle.c_tree.specs.declared.keyword.Keyword.TheVariants as words
use Rattle.c_tree.specs.declared.operator.StructOrUnion.{StructOrUnion}
use Rattle.c_tree.specs.declared.operator.StructOrUnion.TheVariants as which_word
use Rattle.c_tree.specs.declared.punctuator.Punctuator.TheVariants as marks
use Rattle.c_tree.specs.Symbol.{Symbol}
use Rattle.c_tree.specs.Syntax.{Syntax, Specifier, Part, Outer, StructTag, StructBody, EnumTag, EnumBody, StructDeclaration, BitField, Enumerator, Empty, absent, present, Syntaxes, no_more, more}
use Rattle.c_grammar.specs.Symbols.{after_sign, after_keyword, take_symbol, is_word}
use Rattle.c_grammar.specs.Levels.{conditional_level}
use Rattle.c_grammar.specs.Names.{Names}
use Rattle.c_grammar.specs.Specifiers.{InTypeName}
use Rattle.c_grammar.specs.Nonterminal.{WithName, Expression, DeclaratorIn}
use Rattle.c_grammar.specs.Found.{◌>>=◌, if_there, Found, made, Reader}
use Rattle.c_grammar.specs.UnitGrammar.Names.{declared}
use Rattle.c_grammar.specs.UnitGrammar.Construct.{SpecifiersIn, StructMember, ConstructReader}
use Rattle.c_grammar.specs.UnitGrammar.Declarations.{makes_members}

-- NAME ("=" cond)?
abbrev pub read_enumerator : Reader → Names → List Symbol → Option Found
read_enumerator reader names ts =
    take_symbol is_word ts >>= λ name. if_there (after_sign marks.Assign name.1)
    (Some (Part (Enumerator name.0 absent), name.1))
    (λ rest. reader (Expression conditional_level) names rest >>= λ value. Some (Part (Enumerator name.0 (present value.0)), value.1))

-- enumerator ("," enumerator)* ","? "}", at most f of them; each is read under the names of those before it
unfoldable pub read_enumerators : Reader → Names → ℕ → List Symbol → Option (Syntaxes × Bool × List Symbol)
read_enumerators reader names zero ts = None
read_enumerators reader names (suc f) ts =
    read_enumerator reader names ts >>= λ e. if_there (after_sign marks.Comma e.1)
    (after_sign marks.CloseBrace e.1 >>= λ rest. Some (more e.0 no_more, false, rest))
    (λ others. if_there (after_sign marks.CloseBrace others)
    (read_enumerators reader (declared e.0 names) f others >>= λ es. Some (more e.0 es.0, es.1, es.2))
    (λ rest. Some (more e.0 no_more, true, rest)))

abbrev pub read_enum_body : Reader → ℕ → Names → Option Symbol → List Symbol → Option Found
read_enum_body reader m names tag ts = read_enumerators reader names (length ts) ts >>= λ es. made m (Specifier (EnumBody tag es.0 es.1)) es.2

-- the rest of enum NAME | enum NAME? "{" enumerator,+ ","? "}"
abbrev pub read_enum : Reader → ℕ → Names → List Symbol → Option Found
read_enum reader m names ts =
    if_there (take_symbol is_word ts)
    (after_sign marks.OpenBrace ts >>= λ inside. read_enum_body reader m names None inside)
    (λ tag. if_there (after_sign marks.OpenBrace tag.1)
    (made m (Specifier (EnumTag tag.0)) tag.1)
    (λ inside. read_enum_body reader m names (Some tag.0) inside))

-- members up to "}", at most f of them with it; each is read under the names of those before it
unfoldable pub read_members : ConstructReader → Names → ℕ → List Symbol → Option (Syntaxes × List Symbol)
read_members inner names zero ts = None
read_members inner names (suc f) ts =
    if_there (after_sign marks.CloseBrace ts)
    (inner StructMember names ts >>= λ e. read_members inner (declared e.0 names) f e.1 >>= λ es. Some (more e.0 es.0, es.1))
    (λ rest. Some (no_more, rest))

abbrev pub read_struct_body : ConstructReader → ℕ → Names → StructOrUnion → Option Symbol → List Symbol → Option Found
read_struct_body inner m names which tag ts = read_members inner names (length ts) ts >>= λ es. made m (Specifier (StructBody which tag es.0)) es.1

-- the rest of (struct|union) NAME | (struct|union) NAME? "{" member* "}"
abbrev pub read_struct : ConstructReader → ℕ → Names → StructOrUnion → List Symbol → Option Found
read_struct inner m names which ts =
    if_there (take_symbol is_word ts)
    (after_sign marks.OpenBrace ts >>= λ inside. read_struct_body inner m names which None inside)
    (λ tag. if_there (after_sign marks.OpenBrace tag.1)
    (made m (Specifier (StructTag which tag.0)) tag.1)
    (λ inside. read_struct_body inner m names which (Some tag.0) inside))

abbrev pub read_tagged : Reader → ConstructReader → ℕ → Names → List Symbol → Option Found
read_tagged reader inner m names ts =
    if_there (after_keyword words.Struct ts)
    (if_there (after_keyword words.Union ts)
    (after_keyword words.Enum ts >>= λ rest. read_enum reader m names rest)
    (λ rest. read_struct inner m names which_word.Union rest))
    (λ rest. read_struct inner m names which_word.Struct rest)

-- declarator (":" cond)? | ":" cond
abbrev pub read_member_declarator : Reader → Names → List Symbol → Option Found
read_member_declarator reader names ts =
    if_there (after_sign marks.Colon ts)
    (reader (DeclaratorIn WithName) names ts >>= λ d. if_there (after_sign marks.Colon d.1) (Some (d.0, d.1))
    (λ rest. reader (Expression conditional_level) names rest >>= λ width. Some (Specifier (BitField (present d.0) width.0), width.1)))
    (λ rest. reader (Expression conditional_level) names rest >>= λ width. Some (Specifier (BitField absent width.0), width.1))

-- mdecl ("," mdecl)* ";", at most f of them
unfoldable pub read_member_declarators : Reader → Names → ℕ → List Symbol → Option (Syntaxes × List Symbol)
read_member_declarators reader names zero ts = None
read_member_declarators reader names (suc f) ts =
    read_member_declarator reader names ts >>= λ e. if_there (after_sign marks.Comma e.1)
    (after_sign marks.Semicolon e.1 >>= λ rest. Some (more e.0 no_more, rest))
    (λ others. read_member_declarators reader names f others >>= λ es. Some (more e.0 es.0, es.1))

-- the declarators of members with these specifiers, under the names that the specifiers leave
abbrev pub read_declared_members : Reader → ℕ → Names → Syntax → List Symbol → Option Found
read_declared_members reader m names specs ts =
    if_there (after_sign marks.Semicolon ts)
    (read_member_declarators reader names (length ts) ts >>= λ es. made m (Specifier (StructDeclaration specs es.0)) es.1)
    (λ rest. cond (makes_members specs) (made m (Specifier (StructDeclaration specs no_more)) rest) None)

-- specs (mdecl,+)? ";" | ";"
abbrev pub read_member : Reader → ConstructReader → ℕ → Names → List Symbol → Option Found
read_member reader inner m names ts =
    if_there (after_sign marks.Semicolon ts)
    (inner (SpecifiersIn InTypeName) names ts >>= λ specs. read_declared_members reader m (declared specs.0 names) specs.0 specs.1)
    (λ rest. made m (Outer Empty) rest)
