-- What a message spells of a tree are the tokens over which it stands.
use Rattle.std.proofs.Common.{◌≡◌, ◌<◌, ◌+◌, ℕ, nat_eq, List, [], ◌∷◌, ◌++◌, length, take, Bool, true, false, cond, ◌&&◌, refl, sym, ap, subst, ◌∙◌, arith}
use Rattle.std.proofs.lemmas.List.{length-map}
use Rattle.c_grammar.specs.CPlaces.Lines.{line_of}
use Rattle.c_grammar.specs.CPlaces.Stands.{OfPlace, OfBoth, StandsOver}
use Rattle.c_tree.specs.Forget.{syntax_of}
use Rattle.c_tree.specs.Node.{Node, node}
use Rattle.c_tree.specs.PathSubjects.Subjects.{first_of}
use Rattle.c_tree.specs.Symbol.{symbol_of, symbols_of}
use Rattle.c_tree.specs.TokenPlaces.{Rises, StandInFile}
use Rattle.c_tree.specs.Tokens.{tokens_of}
use Rattle.c_tree.specs.declared.token.Token.{Token}
use Rattle.hole_matching.specs.Message.{Source, is_at, from_place, tree_tokens}
use Rattle.event_places.proofs.Closing.{later}
use Rattle.event_places.proofs.Spelled.{own-tokens, same-tree}
use Rattle.event_places.proofs.Tokens.{is-there}

both-false : (b : Bool) → (b && false) ≡ false
both-false true = refl
both-false false = refl

-- a token that stands before it stands elsewhere
elsewhere : (t b : Token) → b.place.token < t.place.token → is_at t.place b ≡ false
elsewhere t b l =
    let e : nat_eq b.place.token t.place.token ≡ false = grind arith in
    ap (λ x. nat_eq b.place.file t.place.file && x) e ∙ both-false (nat_eq b.place.file t.place.file)

-- the tokens from the place of one of them on
from-there : (low high : ℕ) (before : List Token) (t : Token) (ts : List Token) → Rises low (before ++ (t ∷ ts)) high → from_place t.place (before ++ (t ∷ ts)) ≡ t ∷ ts
from-there low high [] t ts h = ap (λ b. cond b (t ∷ ts) (from_place t.place ts)) (is-there t.place t refl)
from-there low high (b ∷ before) t ts h =
    let x = later (b.place.token + 1) high before t ts h.1 in
    ap (λ c. cond c (b ∷ (before ++ (t ∷ ts))) (from_place t.place (before ++ (t ∷ ts)))) (elsewhere t b (omega (arith, x)))
    ∙ from-there (b.place.token + 1) high before t ts h.1

take-front : (us rest : List Token) (n : ℕ) → n ≡ length us → take n (us ++ rest) ≡ us
take-front us rest n e = ap (λ k. take k (us ++ rest)) e ∙ by us
  where
    by : (us : List Token) → take (length us) (us ++ rest) ≡ us
    by [] = refl
    by (u ∷ us) = ap (λ (vs : List Token). u ∷ vs) (by us)

module _ (w : Source) (file : ℕ) (placed : StandInFile file w.tokens) where
  -- a node that stands over tokens begins there
  begins : (n : Node) (before ts rest : List Token) (low high : ℕ) → w.tokens ≡ before ++ ts → StandsOver n low high ts rest → from_place (first_of n) w.tokens ≡ ts
  begins (node i p s) before ts rest low high e (OfBoth (OfBoth (OfPlace {t = t} {ts = us}) a) b) =
      ap (from_place t.place) e ∙ from-there 0 placed.high before t us (subst (λ (vs : List Token). Rises 0 vs placed.high) e placed.rises)

  spelled-own : (n : Node) (before ts rest own : List Token) (low high : ℕ) → w.tokens ≡ before ++ ts → StandsOver n low high ts rest → ts ≡ own ++ rest → symbols_of own ≡ tokens_of (syntax_of n) → tree_tokens w n ≡ own
  spelled-own n before ts rest own low high e h k s =
      ap (take (length (tokens_of (syntax_of n)))) (begins n before ts rest low high e h ∙ k)
      ∙ take-front own rest (length (tokens_of (syntax_of n))) (ap length (sym s) ∙ length-map own symbol_of)

pub tree-spelled : (w : Source) (file : ℕ) (n : Node) (before ts rest : List Token) (low high : ℕ) → StandInFile file w.tokens → w.tokens ≡ before ++ ts → StandsOver n low high ts rest
    → (ts ≡ tree_tokens w n ++ rest) × (symbols_of (tree_tokens w n) ≡ tokens_of (syntax_of n))
tree-spelled w file n before ts rest low high placed e h =
    let x = own-tokens (line_of n) low high ts rest h in
    let s : symbols_of x.0 ≡ tokens_of (syntax_of n) = let y = same-tree n in x.2 ∙ y.same [] in
    let own : tree_tokens w n ≡ x.0 = spelled-own w file placed n before ts rest x.0 low high e h x.1 s in
    (x.1 ∙ ap (λ (us : List Token). us ++ rest) (sym own), ap symbols_of own ∙ s)
