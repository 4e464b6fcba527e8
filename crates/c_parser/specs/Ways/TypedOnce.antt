-- Equal to the step of the plain reader that reads specifiers, by leaving off where no place has all of them.
-- Specifiers of which no structure, union or enumeration stands behind a type. Where one does, no place has all of them.
use Rattle.std.specs.Prelude.{ℕ, zero, suc, Bool, cond, ◌&&◌, ◌||◌, List, Option, None, Some}
use Rattle.c_tree.specs.Symbol.{Symbol}
use Rattle.c_tree.specs.Syntax.{Specifier, Specs, Syntaxes, no_more, more}
use Rattle.c_grammar.specs.Symbols.{take_symbol}
use Rattle.c_grammar.specs.Names.{Names}
use Rattle.c_grammar.specs.Specifiers.{Place, begins_tag, goes_on, types, fit}
use Rattle.c_grammar.specs.Found.{◌>>=◌, if_there, Found, made}
use Rattle.c_grammar.specs.Ways.SpecifierSteps.{read_item}

-- as `read_items`, but nothing where a structure, union or enumeration stands behind a type
unfoldable pub read_typed_once : (List Symbol → Option Found) → Names → ℕ → Bool → List Symbol → Option (Syntaxes × List Symbol)
read_typed_once tagged names zero typed ts = if_there (take_symbol (goes_on names typed) ts) (Some (no_more, ts)) (λ _. None)
read_typed_once tagged names (suc f) typed ts =
    if_there (take_symbol (goes_on names typed) ts) (Some (no_more, ts))
    (λ t. cond (typed && begins_tag t.0) None (read_item tagged t.0 t.1 >>= λ e. read_typed_once tagged names f (typed || types e.0) e.1 >>= λ es. Some (more e.0 es.0, es.1)))

-- these as all specifiers of one place
abbrev pub specs_made : ℕ → Place → (Syntaxes × List Symbol) → Option Found
specs_made m place items = cond (fit place items.0) (made m (Specifier (Specs items.0)) items.1) None
