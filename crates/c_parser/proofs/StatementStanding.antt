-- Where parts of statements stand.
use Rattle.std.proofs.Common.{◌≡◌, ℕ, List, ◌∷◌, ap, subst}
use Rattle.c_tree.specs.declared.keyword.Keyword.{Keyword}
use Rattle.c_tree.specs.declared.token.Token.{Token}
use Rattle.c_tree.specs.Symbol.{Symbol, Reserved, symbols_of}
use Rattle.c_grammar.specs.CPlaces.Lines.{Line, fixed, at, kept, ◌⨾◌}
use Rattle.c_grammar.specs.CPlaces.Stands.{Stands, OfKept, OfFixed, OfPlace, OfBoth}
use Rattle.c_expr.specs.Standing.{Passes, Keeps}
use Rattle.c_expr.proofs.Standing.{then_both}

-- what stands behind in three parts
pub then_three : (l m n o : Line) (low middle high : ℕ) (ts us rest : List Token) → Stands l low middle ts us → Stands (m ⨾ n ⨾ o) middle high us rest → Stands (l ⨾ m ⨾ n ⨾ o) low high ts rest
then_three l m n o low middle high ts us rest s (OfBoth {middle = k} {us = vs} a b) = OfBoth (then_both l m n low middle k ts us vs s a) b

self_at : (t : Token) (low high : ℕ) (ts rest : List Token) → Stands (kept t) low high ts rest → Stands (at t.place) low low ts ts
self_at t low high ts rest OfKept = OfPlace

-- the place of a token that stands in front
pub at_kept : (t : Token) (low : ℕ) (ts rest : List Token) → Keeps t ts rest → Stands (at t.place) low low ts ts
at_kept t low ts rest k = self_at t low low ts rest (k low)

pub passes-as : (word k : Keyword) (ts rest : List Token) → word ≡ k → Passes (Reserved word) ts rest → Passes (Reserved k) ts rest
passes-as word k ts rest e p = subst (λ w. Passes (Reserved w) ts rest) e p

fixed_front : (s : Symbol) (low high : ℕ) (ts rest : List Token) → Stands (fixed s) low high ts rest → symbols_of ts ≡ s ∷ symbols_of rest
fixed_front s low high ts rest (OfFixed {t = t} {ts = us} e) = ap (λ x. x ∷ symbols_of us) e

pub passed-symbols : (s : Symbol) (ts rest : List Token) → Passes s ts rest → symbols_of ts ≡ s ∷ symbols_of rest
passed-symbols s ts rest p = fixed_front s 0 0 ts rest (p 0)
