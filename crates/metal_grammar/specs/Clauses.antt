-- The clauses of a text. A clause ends at the first `;` within the machine's braces and within no others. What stands up to
-- the first `{` belongs to the first clause, and everything from the machine's closing brace on to the last.
use Rattle.std.specs.Prelude.{ℕ, zero, suc, Bool, true, cond, nat_eq, ◌&&◌, List, [], ◌∷◌}
use Rattle.c_tree.specs.declared.punctuator.Punctuator.TheVariants as marks
use Rattle.c_tree.specs.Symbol.{Symbol}
use Rattle.c_grammar.specs.Symbols.{is_sign}

-- one more symbol in front of the first clause
abbrev pub in_front : Symbol → List (List Symbol) → List (List Symbol)
in_front t [] = (t ∷ []) ∷ []
in_front t (c ∷ cs) = (t ∷ c) ∷ cs

-- no clause begins here: the text ends, or the closing brace stands here
abbrev pub ends_here : List Symbol → Bool
ends_here [] = true
ends_here (t ∷ ts) = is_sign marks.CloseBrace t

abbrev pub less : ℕ → ℕ
less zero = zero
less (suc n) = n

-- how many braces are open behind a symbol, where so many are before it
abbrev pub open_behind : ℕ → Symbol → ℕ
open_behind depth t = cond (is_sign marks.OpenBrace t) (suc depth) (cond (is_sign marks.CloseBrace t) (less depth) depth)

-- the machine's closing brace, and a `;` that ends a clause
abbrev pub closes : ℕ → Symbol → Bool
closes depth t = nat_eq depth 1 && is_sign marks.CloseBrace t

abbrev pub ends_clause : ℕ → Symbol → Bool
ends_clause depth t = nat_eq depth 1 && is_sign marks.Semicolon t

-- the clauses of what follows a symbol, of which `others` are those where it neither ends a clause nor closes the machine
abbrev pub clauses_behind : ℕ → Symbol → List Symbol → List (List Symbol) → List (List Symbol)
clauses_behind depth t ts others = cond (closes depth t) (ts ∷ []) (cond (ends_clause depth t) (cond (ends_here ts) (ts ∷ []) ([] ∷ others)) others)

-- the clauses of the rest of a text, where so many braces are open; the first goes on with what stands before
abbrev pub clauses_from : ℕ → List Symbol → List (List Symbol)
clauses_from depth [] = [] ∷ []
clauses_from depth (t ∷ ts) = in_front t (clauses_behind depth t ts (clauses_from (open_behind depth t) ts))

-- the clauses of a text, one at least
abbrev pub clauses_of : List Symbol → List (List Symbol)
clauses_of ts = clauses_from zero ts
