-- The closing brace of a function's body (ISO 9899:1990, 6.6.2), which no tree has: where its first brace is closed.
use Rattle.std.specs.Prelude.{ℕ, suc, ◌-◌, leb, List, [], ◌∷◌, Option, None, Some, Bool, true, false, cond}
use Rattle.c_tree.specs.declared.place.Place.{Place}
use Rattle.c_tree.specs.declared.punctuator.Punctuator.TheVariants as marks
use Rattle.c_tree.specs.declared.token.Token.{Token}
use Rattle.c_tree.specs.declared.token.TokenKind.{TokenKind}
use Rattle.c_tree.specs.declared.token.TokenKind.TheVariants as kinds
use Rattle.type_rules.specs.Options.{if_there}
use Rattle.typed_unit.specs.TokenSearch.Numbers.{from}

abbrev pub opens : TokenKind → Bool
opens (kinds.Punct marks.OpenBrace) = true
opens _ = false

abbrev pub closes : TokenKind → Bool
closes (kinds.Punct marks.CloseBrace) = true
closes _ = false

-- the place at which this many open braces, and those that open behind them, are closed
abbrev pub closing : ℕ → List Token → Option Place
closing open_braces [] = None
closing open_braces (t ∷ ts) =
    cond (opens t.kind) (closing (suc open_braces) ts)
    (cond (closes t.kind) (cond (leb open_braces 1) (Some t.place) (closing (open_braces - 1) ts))
    (closing open_braces ts))

-- THE CLOSING BRACE of the block that begins at this place; the place itself, where no brace closes it
abbrev pub closing_brace : List Token → Place → Place
closing_brace tokens first = if_there (closing 0 (from first.token tokens)) first (λ p. p)
