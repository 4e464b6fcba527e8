-- A way to prove which trees are specifiers: steps of the plain reader, which finds those of `Grammar`.
-- The steps that read specifiers: one specifier after the other, as long as the next symbol goes on with them.
use Rattle.std.specs.Prelude.{ℕ, zero, suc, Bool, false, cond, ◌||◌, List, ◌∷◌, length, Option, None, Some}
use Rattle.c_tree.specs.declared.keyword.Keyword.TheVariants as words
use Rattle.c_tree.specs.declared.operator.StructOrUnion.{StructOrUnion}
use Rattle.c_tree.specs.declared.operator.StructOrUnion.TheVariants as which_word
use Rattle.c_tree.specs.Symbol.{Symbol}
use Rattle.c_tree.specs.Syntax.{Specifier, Part, StructTag, EnumTag, Specs, SpecWord, Syntaxes, no_more, more}
use Rattle.c_grammar.specs.Symbols.{after_keyword, is_word, take_symbol}
use Rattle.c_grammar.specs.Names.{Names}
use Rattle.c_grammar.specs.Specifiers.{Place, begins_tag, goes_on, types, fit}
use Rattle.c_grammar.specs.Found.{◌>>=◌, if_there, Found, made}

-- a specifier that begins with this symbol; `tagged` reads one that begins with `struct`, `union` or `enum`
abbrev pub read_item : (List Symbol → Option Found) → Symbol → List Symbol → Option Found
read_item tagged t ts = cond (begins_tag t) (tagged (t ∷ ts)) (Some (Part (SpecWord t), ts))

-- at most f specifiers, behind others of which `typed` says that they have a type
unfoldable pub read_items : (List Symbol → Option Found) → Names → ℕ → Bool → List Symbol → Option (Syntaxes × List Symbol)
read_items tagged names zero typed ts = if_there (take_symbol (goes_on names typed) ts) (Some (no_more, ts)) (λ _. None)
read_items tagged names (suc f) typed ts =
    if_there (take_symbol (goes_on names typed) ts) (Some (no_more, ts))
    (λ t. read_item tagged t.0 t.1 >>= λ e. read_items tagged names f (typed || types e.0) e.1 >>= λ es. Some (more e.0 es.0, es.1))

-- all specifiers of one place
abbrev pub read_specifiers : (List Symbol → Option Found) → ℕ → Place → Names → List Symbol → Option Found
read_specifiers tagged m place names ts =
    read_items tagged names (length ts) false ts >>= λ items. cond (fit place items.0) (made m (Specifier (Specs items.0)) items.1) None

abbrev pub read_struct_tag : StructOrUnion → List Symbol → Option Found
read_struct_tag which ts = take_symbol is_word ts >>= λ tag. Some (Specifier (StructTag which tag.0), tag.1)

abbrev pub read_enum_tag : List Symbol → Option Found
read_enum_tag ts = take_symbol is_word ts >>= λ tag. Some (Specifier (EnumTag tag.0), tag.1)

-- a tag without a body
abbrev pub read_tag : List Symbol → Option Found
read_tag ts =
    if_there (after_keyword words.Struct ts)
    (if_there (after_keyword words.Union ts)
    (after_keyword words.Enum ts >>= λ rest. read_enum_tag rest)
    (λ rest. read_struct_tag which_word.Union rest))
    (λ rest. read_struct_tag which_word.Struct rest)
