-- Where the rules of a text begin: behind a `:` or a `|` within the machine's braces and within no others.
use Rattle.std.specs.Prelude.{ℕ, ◌+◌, Bool, cond, nat_eq, ◌&&◌, ◌||◌, List, [], ◌∷◌, Option, None, Some}
use Rattle.c_tree.specs.declared.punctuator.Punctuator.TheVariants as marks
use Rattle.c_tree.specs.Symbol.{Symbol}
use Rattle.c_grammar.specs.Symbols.{is_sign}
use Rattle.metal_grammar.specs.Clauses.{open_behind}

-- a rule begins behind this symbol, before which so many braces are open
abbrev pub begins_behind : ℕ → Symbol → Bool
begins_behind depth t = nat_eq depth 1 && (is_sign marks.Colon t || is_sign marks.Bar t)

-- the positions at which rules begin, in the rest of a text before which so many braces are open and so many symbols stand
abbrev pub beginnings : ℕ → ℕ → List Symbol → List ℕ
beginnings depth position [] = []
beginnings depth position (t ∷ ts) =
    cond (begins_behind depth t) ((position + 1) ∷ beginnings (open_behind depth t) (position + 1) ts) (beginnings (open_behind depth t) (position + 1) ts)

-- the position with a number, where so many stand before these
abbrev pub position_with : ℕ → ℕ → List ℕ → Option ℕ
position_with before number [] = None
position_with before number (p ∷ ps) = cond (nat_eq (before + 1) number) (Some p) (position_with (before + 1) number ps)
