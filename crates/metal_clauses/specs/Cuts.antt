-- The clauses behind the first.
use Rattle.std.specs.Prelude.{List, [], ◌∷◌}
use Rattle.c_tree.specs.Symbol.{Symbol}
use Rattle.metal_grammar.specs.Clauses.{clauses_from}

-- the clauses of the rest of a text within the machine's braces; none where nothing is left
abbrev pub others_in : List Symbol → List (List Symbol)
others_in [] = []
others_in (t ∷ ts) = clauses_from 1 (t ∷ ts)
