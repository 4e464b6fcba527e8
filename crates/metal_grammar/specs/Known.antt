-- Which strings of a text have contents that are names, so that a callout's text has a number.
use Rattle.std.specs.Prelude.{◌≡◌, List, ℕ, [], ◌∷◌, slice_get, Option, None, Some}
use Rattle.c_tree.specs.Symbol.{Symbol, StringLiteral}
use Rattle.metal_grammar.specs.Words.{Spelling, Literal, name_spelled, contents_of}
use Rattle.metal_grammar.specs.Written.{WrittenItem, Callout, WrittenRule, Content, Rules, Clause}
use Rattle.metal_grammar.specs.Callouts.{literal_asked}
use Rattle.metal_grammar.specs.Grammar.{EachIs}

-- some name is spelled so
abbrev pub IsName : Spelling → List ℕ → Type 0
IsName spelling text = slice_get spelling (name_spelled spelling text) ≡ Some text

-- The contents of the string, if there is one, are a name.
abbrev pub IsKnown : Spelling → Option Literal → Type 0
IsKnown spelling None = Unit {0}
IsKnown spelling (Some literal) = IsName spelling (contents_of spelling literal)

abbrev pub ItemIsKnown : Spelling → WrittenItem → Type 0
ItemIsKnown spelling (Callout negated callout) = IsKnown spelling (literal_asked callout)
ItemIsKnown spelling _ = Unit {0}

abbrev pub RuleIsKnown : Spelling → WrittenRule → Type 0
RuleIsKnown spelling r = EachIs (EachIs (ItemIsKnown spelling)) r.alternatives

abbrev pub ContentIsKnown : Spelling → Content → Type 0
ContentIsKnown spelling (Rules s) = EachIs (RuleIsKnown spelling) s.rules
ContentIsKnown spelling _ = Unit {0}

-- the texts of all callouts are names
abbrev pub AreKnown : Spelling → List Clause → Type 0
AreKnown spelling [] = Unit {0}
AreKnown spelling (c ∷ cs) = ContentIsKnown spelling c.content × AreKnown spelling cs

abbrev pub SymbolIsKnown : Spelling → Symbol → Type 0
SymbolIsKnown spelling (StringLiteral wide name) = IsName spelling (contents_of spelling (record { wide = wide; name = name }))
SymbolIsKnown spelling _ = Unit {0}

-- the contents of all strings among these are names
abbrev pub StringsAreKnown : Spelling → List Symbol → Type 0
StringsAreKnown spelling [] = Unit {0}
StringsAreKnown spelling (t ∷ ts) = SymbolIsKnown spelling t × StringsAreKnown spelling ts
