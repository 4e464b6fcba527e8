-- What follows a phrase, both ways: a phrase in front is taken off, and what was taken off is the phrase.
use Rattle.std.proofs.Common.{◌≡◌, Bool, true, false, cond, List, [], ◌∷◌, ◌++◌, length, Option, None, Some, ap, refl, sym, arith}
use Rattle.std.specs.Prelude.{IsTrue, ◌==◌}
use Rattle.std.proofs.lemmas.Option.{cond_some}
use Rattle.c_tree.specs.declared.token.Token.{Token}
use Rattle.c_tree.specs.Symbol.{Symbol, symbols_of}
use Rattle.c_tree.specs.Phrase.{Phrase, nothing, one, all, ◌⨾◌, phrase_then}
use Rattle.tree_laws.specs.Ways.After.{same_symbol, after_symbol, after_one, after_symbols, after_phrase}
use Rattle.tree_laws.proofs.TreeYields.SameSymbols.{same_symbol-decides}

after_symbol-then : (s : Symbol) (ts : List Symbol) → after_symbol s (s ∷ ts) ≡ Some ts
after_symbol-then s ts = ap (λ b. cond b (Some ts) None) ((same_symbol-decides s s).1 refl)

from_after_symbol : (s : Symbol) (ts r : List Symbol) → after_symbol s ts ≡ Some r → ts ≡ s ∷ r
from_after_symbol s [] r h = cc
from_after_symbol s (t ∷ ts) r h =
    let k = cond_some (same_symbol s t) ts r h in
    let e = (same_symbol-decides s t).0 k.0 in
    let f = k.1 in
    cc

from_after_one : (s : Symbol) (o : Option (List Symbol)) (r : List Symbol) → after_one s o ≡ Some r → o ≡ Some (s ∷ r)
from_after_one s None r h = cc
from_after_one s (Some ts) r h = ap Some (from_after_symbol s ts r h)

after_symbols-then : (ss ts : List Symbol) → after_symbols ss (Some (ss ++ ts)) ≡ Some ts
after_symbols-then [] ts = refl
after_symbols-then (s ∷ ss) ts = rw (after_symbol-then s (ss ++ ts)) (after_symbols-then ss ts)

from_after_symbols : (ss : List Symbol) (o : Option (List Symbol)) (r : List Symbol) → after_symbols ss o ≡ Some r → o ≡ Some (ss ++ r)
from_after_symbols [] o r h = h
from_after_symbols (s ∷ ss) o r h = from_after_one s o (ss ++ r) (from_after_symbols ss (after_one s o) r h)

after_phrase-then : (p : Phrase) (ts : List Symbol) → after_phrase p (Some (phrase_then p ts)) ≡ Some ts
after_phrase-then nothing ts = refl
after_phrase-then (one s) ts = after_symbol-then s ts
after_phrase-then (all ss) ts = after_symbols-then ss ts
after_phrase-then (p ⨾ q) ts = rw (after_phrase-then p (phrase_then q ts)) (after_phrase-then q ts)

from_after_phrase : (p : Phrase) (o : Option (List Symbol)) (r : List Symbol) → after_phrase p o ≡ Some r → o ≡ Some (phrase_then p r)
from_after_phrase nothing o r h = h
from_after_phrase (one s) o r h = from_after_one s o r h
from_after_phrase (all ss) o r h = from_after_symbols ss o r h
from_after_phrase (p ⨾ q) o r h = from_after_phrase p o (phrase_then q r) (from_after_phrase q (after_phrase p o) r h)

-- the answers of `yields`
pub yields_none : (p : Phrase) (ts : List Symbol) → None ≡ after_phrase p (Some ts) → (IsTrue false → ts ≡ phrase_then p []) × (ts ≡ phrase_then p [] → IsTrue false)
yields_none p ts h = (λ f. cc f, λ q. let k = after_phrase-then p [] in let m = ap (λ (x : List Symbol). after_phrase p (Some x)) q in cc)

pub yields_some : (p : Phrase) (ts : List Symbol) (rest : List Token) (b : Bool) → Some (symbols_of rest) ≡ after_phrase p (Some ts) → b ≡ (length rest == 0) → (IsTrue b → ts ≡ phrase_then p []) × (ts ≡ phrase_then p [] → IsTrue b)
yields_some p ts [] b h n = (λ f. let e = from_after_phrase p (Some ts) [] (sym h) in cc, λ q. grind (arith, n))
yields_some p ts (t ∷ rest) b h n = (λ f. let m : false ≡ true = grind (arith, n, f) in cc m, λ q. let k = after_phrase-then p [] in let m = ap (λ (x : List Symbol). after_phrase p (Some x)) q in cc)
