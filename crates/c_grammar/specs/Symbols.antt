-- The symbols in front of a list.
use Rattle.std.specs.Prelude.{◌≡◌, Bool, true, false, cond, nat_eq, List, [], ◌∷◌, Option, None, Some}
use Rattle.c_tree.specs.declared.keyword.Keyword.{Keyword}
use Rattle.c_tree.specs.declared.punctuator.Punctuator.{Punctuator}
use Rattle.c_tree.specs.Symbol.{Symbol, Word, Reserved, Sign, IntLiteral, FloatLiteral, CharLiteral, StringLiteral}
use Rattle.c_tree.specs.Codes.{keyword_code, punctuator_code}

abbrev pub same_keyword : Keyword → Keyword → Bool
same_keyword a b = nat_eq (keyword_code a) (keyword_code b)

abbrev pub is_sign : Punctuator → Symbol → Bool
is_sign p (Sign q) = nat_eq (punctuator_code p) (punctuator_code q)
is_sign p _ = false

abbrev pub is_keyword : Keyword → Symbol → Bool
is_keyword k (Reserved l) = same_keyword k l
is_keyword k _ = false

abbrev pub is_word : Symbol → Bool
is_word (Word name) = true
is_word _ = false

abbrev pub is_string : Symbol → Bool
is_string (StringLiteral wide spelling) = true
is_string _ = false

-- an integer, floating or character constant (ISO 9899:1990, 6.1.3)
abbrev pub is_constant : Symbol → Bool
is_constant (IntLiteral value spelling) = true
is_constant (FloatLiteral end spelling) = true
is_constant (CharLiteral wide spelling) = true
is_constant _ = false

-- what follows the symbol in front, where it has this property
abbrev pub after : (Symbol → Bool) → List Symbol → Option (List Symbol)
after is [] = None
after is (t ∷ ts) = cond (is t) (Some ts) None

abbrev pub after_sign : Punctuator → List Symbol → Option (List Symbol)
after_sign p ts = after (is_sign p) ts

abbrev pub after_keyword : Keyword → List Symbol → Option (List Symbol)
after_keyword k ts = after (is_keyword k) ts

-- the symbol in front has this property
abbrev pub begins : (Symbol → Bool) → List Symbol → Bool
begins is [] = false
begins is (t ∷ ts) = is t

-- the symbol in front and what follows it, where it has this property
abbrev pub take_symbol : (Symbol → Bool) → List Symbol → Option (Symbol × List Symbol)
take_symbol is [] = None
take_symbol is (t ∷ ts) = cond (is t) (Some (t, ts)) None

-- the longest run of symbols in front that have this property
unfoldable pub run_of : (Symbol → Bool) → List Symbol → List Symbol
run_of is [] = []
run_of is (t ∷ ts) = cond (is t) (t ∷ run_of is ts) []

-- and what follows it
unfoldable pub after_run : (Symbol → Bool) → List Symbol → List Symbol
after_run is [] = []
after_run is (t ∷ ts) = cond (is t) (after_run is ts) (t ∷ ts)

-- each symbol has this property
abbrev pub AreAll : (Symbol → Bool) → List Symbol → Type 0
AreAll is [] = Unit {0}
AreAll is (t ∷ ts) = (is t ≡ true) × AreAll is ts
