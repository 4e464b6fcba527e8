-- What stands over a part of tokens stands in all of them.
use Rattle.std.proofs.Common.{◌≡◌, ℕ, ◌+◌, ◌-◌, ◌≤◌, List, [], ◌∷◌, ◌++◌, drop, take, sym, ap, ◌∙◌, subst, arith}
use Rattle.std.proofs.lemmas.List.{take-append-drop, append_assoc, drop-drop}
use Rattle.c_tree.specs.declared.token.Token.{Token}
use Rattle.c_grammar.specs.CPlaces.Lines.{Line, nothing, kept, all_kept, fixed, at, numbered, names, ◌⨾◌}
use Rattle.c_grammar.specs.CPlaces.Stands.{Stands, OfNothing, OfKept, OfAll, OfFixed, OfPlace, OfNumber, OfName, OfBoth}
use Rattle.c_parser.specs.Units.{tokens_in}

pub stands_longer : (l : Line) (low high : ℕ) (ts rest us : List Token) → Stands l low high ts rest → Stands l low high (ts ++ us) (rest ++ us)
stands_longer nothing low high ts rest us OfNothing = OfNothing
stands_longer (kept t) low high ts rest us OfKept = OfKept
stands_longer (all_kept vs) low high ts rest us OfAll = subst (λ x. Stands (all_kept vs) low low x (rest ++ us)) (sym (append_assoc vs rest us)) OfAll
stands_longer (fixed s) low high ts rest us (OfFixed e) = OfFixed e
stands_longer (at p) low high ts rest us OfPlace = OfPlace
stands_longer (numbered id) low high ts rest us OfNumber = OfNumber
stands_longer (names token n) low high ts rest us OfName = OfName
stands_longer (l ⨾ m) low high ts rest us (OfBoth {middle = middle} {us = vs} a b) = OfBoth (stands_longer l low middle ts vs us a) (stands_longer m middle high vs rest us b)

-- a tree over a chunk stands in all tokens from its beginning up to its end
pub stands_in_all : (l : Line) (low high from to : ℕ) (ts : List Token) → from ≤ to → Stands l low high (tokens_in ts (from, to)) [] → Stands l low high (drop from ts) (drop to ts)
stands_in_all l low high from to ts h s =
    let n = to - from in
    let all = stands_longer l low high (take n (drop from ts)) [] (drop n (drop from ts)) s in
    let whole : take n (drop from ts) ++ drop n (drop from ts) ≡ drop from ts = take-append-drop n (drop from ts) in
    let end : from + n ≡ to = omega arith in
    let rest : drop n (drop from ts) ≡ drop to ts = drop-drop n from ts ∙ ap (λ k. drop k ts) end in
    subst (λ x. Stands l low high x (drop to ts)) whole (subst (λ x. Stands l low high (take n (drop from ts) ++ drop n (drop from ts)) x) rest all)
