-- A way to prove which tokens a tree has: they are taken off a list, piece by piece.
-- What follows the symbols of a phrase, if they stand in front: a phrase taken off symbols, piece by piece.
use Rattle.std.specs.Prelude.{ℕ, Bool, true, false, not, cond, ◌==◌, ◌&&◌, List, [], ◌∷◌, Option, None, Some}
use Rattle.std.specs.Borrow.{Bor}
use Rattle.std.specs.Option.{option_map}
use Rattle.c_tree.specs.declared.token.FloatEnd.{FloatEnd}
use Rattle.c_tree.specs.declared.token.FloatEnd.TheVariants as ends
use Rattle.c_tree.specs.declared.token.Token.{Token}
use Rattle.c_tree.specs.Codes.{keyword_code, punctuator_code}
use Rattle.c_tree.specs.Symbol.{Symbol, Integer, Word, Reserved, Sign, IntLiteral, FloatLiteral, CharLiteral, StringLiteral, symbols_of}
use Rattle.c_tree.specs.Phrase.{Phrase, nothing, one, all, ◌⨾◌}

abbrev pub same_bool : Bool → Bool → Bool
same_bool true b = b
same_bool false b = not b

abbrev pub end_code : FloatEnd → ℕ
end_code ends.Double = 0
end_code ends.F = 1
end_code ends.L = 2

abbrev pub same_integer : Integer → Integer → Bool
same_integer i j = (i.value == j.value) && same_bool i.decimal j.decimal && same_bool i.unsigned j.unsigned && (i.longs == j.longs)

abbrev pub same_symbol : Symbol → Symbol → Bool
same_symbol (Word m) (Word n) = m == n
same_symbol (Reserved v) (Reserved w) = keyword_code v == keyword_code w
same_symbol (Sign p) (Sign q) = punctuator_code p == punctuator_code q
same_symbol (IntLiteral i m) (IntLiteral j n) = same_integer i j && (m == n)
same_symbol (FloatLiteral d m) (FloatLiteral e n) = (end_code d == end_code e) && (m == n)
same_symbol (CharLiteral v m) (CharLiteral w n) = same_bool v w && (m == n)
same_symbol (StringLiteral v m) (StringLiteral w n) = same_bool v w && (m == n)
same_symbol _ _ = false

abbrev pub after_symbol : Symbol → List Symbol → Option (List Symbol)
after_symbol s [] = None
after_symbol s (t ∷ ts) = cond (same_symbol s t) (Some ts) None

-- nothing follows where nothing is left
abbrev pub after_one : Symbol → Option (List Symbol) → Option (List Symbol)
after_one s None = None
after_one s (Some ts) = after_symbol s ts

abbrev pub after_symbols : List Symbol → Option (List Symbol) → Option (List Symbol)
after_symbols [] ts = ts
after_symbols (s ∷ ss) ts = after_symbols ss (after_one s ts)

abbrev pub after_phrase : Phrase → Option (List Symbol) → Option (List Symbol)
after_phrase nothing ts = ts
after_phrase (one s) ts = after_one s ts
after_phrase (all ss) ts = after_symbols ss ts
after_phrase (p ⨾ q) ts = after_phrase q (after_phrase p ts)

-- the symbols of the tokens that are left
abbrev pub rest_of : Option (Bor (List Token)) → Option (List Symbol)
rest_of found = option_map (λ rest. symbols_of rest.now) found
