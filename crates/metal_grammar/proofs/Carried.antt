-- What a step of the reader gives, and the symbols that stand in front.
use Rattle.std.proofs.Common.{◌≡◌, ℕ, Bool, true, false, cond, List, [], ◌∷◌, Option, None, Some, ap, refl, ◌∙◌, subst}
use Rattle.c_tree.specs.declared.punctuator.Punctuator.{Punctuator}
use Rattle.c_tree.specs.Symbol.{Symbol, Word, Sign, StringLiteral}
use Rattle.c_tree.specs.Phrase.{Phrase, phrase_then, sign}
use Rattle.c_grammar.specs.Symbols.{is_sign}
use Rattle.c_grammar.specs.Found.{if_there}
use Rattle.c_grammar.proofs.Options.{same, parts}
use Rattle.c_grammar.proofs.Front.{is_sign-true}
use Rattle.metal_grammar.specs.Words.{Literal}
use Rattle.metal_grammar.specs.Phrases.{sign_if}
use Rattle.metal_grammar.specs.Ways.Steps.{Step, take_word, take_literal, has_sign, behind_sign}

-- the value stands in front of r, and its patterns are expressions
abbrev pub Stands : {A : Type 0} → (A → Phrase) → (A → Type 0) → List Symbol → A → List Symbol → Type 0
Stands phrase Is ts x r = (ts ≡ phrase_then (phrase x) r) × Is x

-- what the step finds stands there
abbrev pub IsSound : {A : Type 0} → Step A → (A → Phrase) → (A → Type 0) → Type 0
IsSound {A} step phrase Is = (ts : List Symbol) (x : A) (r : List Symbol) → step ts ≡ Some (x, r) → Stands phrase Is ts x r

-- of what is found the same holds as of what was made
pub carried : {A : Type 0} (P : A → List Symbol → Type 0) (x y : A) (r s : List Symbol) → ◌≡◌ {A = Option (A × List Symbol)} (Some (x, r)) (Some (y, s)) → P x r → P y s
carried {A} P x y r s h p = let q = same (x, r) (y, s) h in subst (λ z. P z.0 z.1) q p

pub taken_word : (ts : List Symbol) (name : ℕ) (r : List Symbol) → take_word ts ≡ Some (name, r) → ts ≡ Word name ∷ r
taken_word [] name r h = cc
taken_word (Word n ∷ ts) name r h = let p = parts (n, ts) (name, r) h in ap (λ x. Word x ∷ ts) p.0 ∙ ap (λ x. Word name ∷ x) p.1
taken_word (_ ∷ ts) name r h = cc

pub taken_literal : (ts : List Symbol) (l : Literal) (r : List Symbol) → take_literal ts ≡ Some (l, r) → ts ≡ StringLiteral l.wide l.name ∷ r
taken_literal [] l r h = cc
taken_literal (StringLiteral wide name ∷ ts) l r h =
    let made : Literal = record { wide = wide; name = name } in
    let p = parts (made, ts) (l, r) h in
    ap (λ x. StringLiteral x.wide x.name ∷ ts) p.0 ∙ ap (λ x. StringLiteral l.wide l.name ∷ x) p.1
taken_literal (_ ∷ ts) l r h = cc

split_by : (p : Punctuator) (t : Symbol) (ts : List Symbol) (b : Bool) → (b ≡ true → t ≡ Sign p) → t ∷ ts ≡ phrase_then (sign_if b (sign p)) (if_there (cond b (Some ts) None) (t ∷ ts) (λ rest. rest))
split_by p t ts true h = ap (λ x. x ∷ ts) (h refl)
split_by p t ts false h = refl

-- a punctuator that may be there, and what follows
pub sign_split : (p : Punctuator) (ts : List Symbol) → ts ≡ phrase_then (sign_if (has_sign p ts) (sign p)) (behind_sign p ts)
sign_split p [] = refl
sign_split p (t ∷ ts) = split_by p t ts (is_sign p t) (is_sign-true p t)
