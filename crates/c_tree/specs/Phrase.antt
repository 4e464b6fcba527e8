-- Symbols one after the other, in pieces: so that each line of the grammar is one line here.
use Rattle.std.specs.Prelude.{List, ◌∷◌, ◌++◌}
use Rattle.c_tree.specs.declared.keyword.Keyword.{Keyword}
use Rattle.c_tree.specs.declared.punctuator.Punctuator.{Punctuator}
use Rattle.c_tree.specs.Symbol.{Symbol, Reserved, Sign}

infixl 30 ◌⨾◌
pub data Phrase : Type 0 where
  nothing : Phrase
  one : Symbol → Phrase
  all : List Symbol → Phrase
  ◌⨾◌ : Phrase → Phrase → Phrase

abbrev pub keyword : Keyword → Phrase
keyword k = one (Reserved k)

abbrev pub sign : Punctuator → Phrase
sign p = one (Sign p)

-- the symbols of a phrase, and then these
abbrev pub phrase_then : Phrase → List Symbol → List Symbol
phrase_then nothing ts = ts
phrase_then (one s) ts = s ∷ ts
phrase_then (all ss) ts = ss ++ ts
phrase_then (p ⨾ q) ts = phrase_then p (phrase_then q ts)
