-- The contents of a checker's strings become names, behind those of its reading.
use Rattle.std.specs.Prelude.{List, [], ◌∷◌}
use Rattle.mx_base.specs.Names.{names_after}
use Rattle.c_tree.specs.Symbol.{Symbol, StringLiteral}
use Rattle.metal_grammar.specs.Words.{Spelling, contents_of}

-- the contents of a string are a name
abbrev pub with_string : Spelling → Symbol → Spelling
with_string names (StringLiteral wide name) = names_after names (contents_of names (record { wide = wide; name = name }))
with_string names _ = names

-- those of all strings among these symbols, in order
abbrev pub with_strings : Spelling → List Symbol → Spelling
with_strings names [] = names
with_strings names (s ∷ ss) = with_strings (with_string names s) ss
