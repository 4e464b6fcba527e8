-- What is left behind a phrase is what is left behind as many tokens.
use Rattle.std.proofs.Common.{arith, ◌≡◌, ℕ, zero, suc, ◌+◌, ◌-◌, ◌≤◌, List, [], ◌∷◌, length, drop, take, refl, ◌∙◌, sym, ap}
use Rattle.std.proofs.Math.Seq.{drop-nil}
use Rattle.std.proofs.lemmas.List.{length-append, length-drop}
use Rattle.c_tree.specs.declared.token.Token.{Token}
use Rattle.c_tree.specs.Symbol.{Symbol}
use Rattle.c_tree.specs.Phrase.{Phrase, nothing, one, all, ◌⨾◌, phrase_then}
use Rattle.c_tree.specs.PassedTokens.Behind.{behind}

-- the number of tokens that a phrase has
abbrev count : Phrase → ℕ
count nothing = 0
count (one s) = 1
count (all ss) = length ss
count (p ⨾ q) = count p + count q

counted : (p : Phrase) (ts : List Symbol) → length (phrase_then p ts) ≡ count p + length ts
counted nothing ts = grind arith
counted (one s) ts = grind arith
counted (all ss) ts = length-append ss ts
counted (p ⨾ q) ts = let e = counted p (phrase_then q ts) in let f = counted q ts in grind (arith, e, f)

drop-more : (n m : ℕ) (ts : List Token) → drop m (drop n ts) ≡ drop (n + m) ts
drop-more zero m ts = let e : 0 + m ≡ m = grind arith in ap (λ k. drop k ts) (sym e)
drop-more (suc n) m [] = drop-nil m ∙ sym (drop-nil (suc n + m))
drop-more (suc n) m (t ∷ ts) = let e : suc n + m ≡ suc (n + m) = grind arith in drop-more n m ts ∙ ap (λ k. drop k (t ∷ ts)) (sym e)

behind-counted : (p : Phrase) (ts : List Token) → behind p ts ≡ drop (count p) ts
behind-counted nothing ts = refl
behind-counted (one s) ts = refl
behind-counted (all ss) ts = refl
behind-counted (p ⨾ q) ts = behind-counted q (behind p ts) ∙ ap (drop (count q)) (behind-counted p ts) ∙ drop-more (count p) (count q) ts

pub shorter : (p : Phrase) (ts rest : List Token) → rest ≡ behind p ts → length rest ≤ length ts
shorter p ts rest e =
    let f : length rest ≡ length ts - count p = ap length (e ∙ behind-counted p ts) ∙ length-drop (count p) ts in
    grind (arith, f)

left-over : (n : ℕ) (ts : List Token) → take (length ts - length (drop n ts)) ts ≡ take n ts
left-over zero ts = let e : length ts - length ts ≡ 0 = grind arith in ap (λ k. take k ts) e
left-over (suc n) [] = refl
left-over (suc n) (t ∷ ts) =
    let e = length-drop n ts in
    let f : suc (length ts) - length (drop n ts) ≡ suc (length ts - length (drop n ts)) = grind (arith, e) in
    ap (λ k. take k (t ∷ ts)) f ∙ ap (λ z. t ∷ z) (left-over n ts)

pub passed : (p : Phrase) (ts rest : List Token) → rest ≡ behind p ts → take (length ts - length rest) ts ≡ take (length (phrase_then p [])) ts
passed p ts rest e =
    let f = counted p [] in
    let g : count p ≡ length (phrase_then p []) = grind (arith, f) in
    ap (λ x. take (length ts - length x) ts) (e ∙ behind-counted p ts) ∙ left-over (count p) ts ∙ ap (λ n. take n ts) g
