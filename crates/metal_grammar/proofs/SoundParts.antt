-- What is read as a type, a name of a state, a callout or a row of things is one.
use Rattle.std.proofs.Common.{◌≡◌, ℕ, zero, suc, List, [], ◌∷◌, ◌++◌, length, map, filter_map, Option, None, Some, inl, inr, ap, refl, ◌∙◌, sym}
use Rattle.c_tree.specs.declared.keyword.Keyword.TheVariants as words
use Rattle.c_tree.specs.declared.operator.StructOrUnion.{StructOrUnion}
use Rattle.c_tree.specs.declared.operator.StructOrUnion.TheVariants as which_word
use Rattle.c_tree.specs.declared.punctuator.Punctuator.{Punctuator}
use Rattle.c_tree.specs.declared.punctuator.Punctuator.TheVariants as marks
use Rattle.c_tree.specs.Symbol.{Symbol, Word, Reserved, Sign}
use Rattle.c_tree.specs.Phrase.{Phrase, phrase_then, sign}
use Rattle.c_tree.specs.Tokens.{word_of}
use Rattle.c_grammar.specs.Symbols.{is_sign, after_sign, after_keyword, take_symbol, run_of, after_run, AreAll}
use Rattle.c_grammar.proofs.Options.{bound, chosen}
use Rattle.c_grammar.proofs.Front.{taken, taken_keyword, take_symbol_some, is_sign-true, run-all, run-has}
use Rattle.metal_grammar.specs.Words.{Literal}
use Rattle.metal_grammar.specs.Written.{Row, lone, row, WrittenType, KindOfHole, BasicType, TagType, StateName, OfMachine, OfVariable, Argument, Name, Text, WrittenCallout, Digit, Asked}
use Rattle.metal_grammar.specs.Phrases.{row_phrase, stars, type_phrase, state_phrase, argument_phrase, text_phrase, callout_phrase}
use Rattle.metal_grammar.specs.Grammar.{EachIs}
use Rattle.metal_grammar.specs.Ways.Steps.{Step, take_word, take_literal, read_row, is_type_symbol, keyword_in, type_with_stars, read_tag_type, read_type, read_state, read_argument, read_text, is_integer, read_callout}
use Rattle.metal_grammar.proofs.Carried.{IsSound, Stands, carried, taken_word, taken_literal}

pub row-sound : {A : Type 0} (step : Step A) (phrase : A → Phrase) (Is : A → Type 0) (between : Punctuator) (f : ℕ) (ts : List Symbol) (xs : Row A) (r : List Symbol)
    → IsSound step phrase Is → read_row step between f ts ≡ Some (xs, r) → Stands (row_phrase (sign between) phrase) (EachIs Is) ts xs r
unfolding read_row
row-sound step phrase Is between zero ts xs r s h = cc
row-sound step phrase Is between (suc f) ts xs r s h =
    let a = bound (step ts) _ _ h in
    let i = s ts a.0.0 a.0.1 a.1 in
    elim (chosen (after_sign between a.0.1) _ _ _ a.2) as (λ _. Stands (row_phrase (sign between) phrase) (EachIs Is) ts xs r) [
      | inl o ↦ carried (Stands (row_phrase (sign between) phrase) (EachIs Is) ts) (lone a.0.0) xs a.0.1 r o.1 i
      | inr o ↦
          let b = bound (read_row step between f o.0) _ _ o.2 in
          let j = row-sound step phrase Is between f o.0 b.0.0 b.0.1 s b.1 in
          carried (Stands (row_phrase (sign between) phrase) (EachIs Is) ts) (row a.0.0 b.0.0) xs b.0.1 r b.2
          (i.0 ∙ ap (λ x. phrase_then (phrase a.0.0) x) (taken between a.0.1 o.0 o.1 ∙ ap (λ x. Sign between ∷ x) j.0), (i.1, j.1))
    ]

keywords_back : (ts : List Symbol) → AreAll is_type_symbol ts → ts ≡ map Reserved (filter_map keyword_in ts)
keywords_back [] w = refl
keywords_back (Reserved k ∷ ts) w = ap (λ x. Reserved k ∷ x) (keywords_back ts w.1)
keywords_back (_ ∷ ts) w = let c = w.0 in cc

stars_back : (ts : List Symbol) → AreAll (is_sign marks.Star) ts → ts ≡ stars (length ts)
stars_back [] w = refl
stars_back (t ∷ ts) w = ap (λ x. x ∷ ts) (is_sign-true marks.Star t w.0) ∙ ap (λ x. Sign marks.Star ∷ x) (stars_back ts w.1)

-- the stars in front, and what follows them
with_stars : (type : ℕ → WrittenType) (front : List Symbol → List Symbol) (ts : List Symbol) (t : WrittenType) (r : List Symbol)
    → ((n : ℕ) (x : List Symbol) → phrase_then (type_phrase (type n)) x ≡ front (stars n ++ x)) → type_with_stars type ts ≡ Some (t, r) → front ts ≡ phrase_then (type_phrase t) r
with_stars type front ts t r c h =
    let n = length (run_of (is_sign marks.Star) ts) in
    let rest = after_run (is_sign marks.Star) ts in
    let e : ts ≡ stars n ++ rest = run-all (is_sign marks.Star) ts ∙ ap (λ x. x ++ rest) (stars_back (run_of (is_sign marks.Star) ts) (run-has (is_sign marks.Star) ts)) in
    carried (λ x y. front ts ≡ phrase_then (type_phrase x) y) (type n) t rest r h (ap front e ∙ sym (c n rest))

tag_type-sound : (which : StructOrUnion) (ts : List Symbol) (t : WrittenType) (r : List Symbol) → read_tag_type which ts ≡ Some (t, r) → Reserved (word_of which) ∷ ts ≡ phrase_then (type_phrase t) r
tag_type-sound which ts t r h =
    let a = bound (take_word ts) _ _ h in
    let F : List Symbol → List Symbol = λ x. Reserved (word_of which) ∷ Word a.0.0 ∷ x in
    ap (λ x. Reserved (word_of which) ∷ x) (taken_word ts a.0.0 a.0.1 a.1) ∙ with_stars (TagType which a.0.0) F a.0.1 t r (λ n x. refl) a.2

pub type-sound : (ts : List Symbol) (t : WrittenType) (r : List Symbol) → read_type ts ≡ Some (t, r) → ts ≡ phrase_then (type_phrase t) r
type-sound ts t r h =
    elim (chosen (take_symbol is_type_symbol ts) _ _ _ h) as (λ _. ts ≡ phrase_then (type_phrase t) r) [
      | inr o ↦
          let run = run_of is_type_symbol ts in
          let rest = after_run is_type_symbol ts in
          let keywords = filter_map keyword_in run in
          let e : ts ≡ map Reserved keywords ++ rest = run-all is_type_symbol ts ∙ ap (λ x. x ++ rest) (keywords_back run (run-has is_type_symbol ts)) in
          let F : List Symbol → List Symbol = λ x. map Reserved keywords ++ x in
          e ∙ with_stars (BasicType keywords) F rest t r (λ n x. refl) o.2
      | inl o ↦ elim (chosen (take_word ts) _ _ _ o.1) as (λ _. ts ≡ phrase_then (type_phrase t) r) [
        | inr p ↦ carried (λ x y. ts ≡ phrase_then (type_phrase x) y) (KindOfHole p.0.0) t p.0.1 r p.2 (taken_word ts p.0.0 p.0.1 p.1)
        | inl p ↦ elim (chosen (after_keyword words.Struct ts) _ _ _ p.1) as (λ _. ts ≡ phrase_then (type_phrase t) r) [
          | inr q ↦ taken_keyword words.Struct ts q.0 q.1 ∙ tag_type-sound which_word.Struct q.0 t r q.2
          | inl q ↦
              let a = bound (after_keyword words.Union ts) _ _ q.1 in
              taken_keyword words.Union ts a.0 a.1 ∙ tag_type-sound which_word.Union a.0 t r a.2
        ]
      ]
    ]

pub state-sound : (ts : List Symbol) (s : StateName) (r : List Symbol) → read_state ts ≡ Some (s, r) → ts ≡ phrase_then (state_phrase s) r
state-sound ts s r h =
    let a = bound (take_word ts) _ _ h in
    let w = taken_word ts a.0.0 a.0.1 a.1 in
    elim (chosen (after_sign marks.Dot a.0.1) _ _ _ a.2) as (λ _. ts ≡ phrase_then (state_phrase s) r) [
      | inl o ↦ carried (λ x y. ts ≡ phrase_then (state_phrase x) y) (OfMachine a.0.0) s a.0.1 r o.1 w
      | inr o ↦
          let b = bound (take_word o.0) _ _ o.2 in
          carried (λ x y. ts ≡ phrase_then (state_phrase x) y) (OfVariable a.0.0 b.0.0) s b.0.1 r b.2
          (w ∙ ap (λ x. Word a.0.0 ∷ x) (taken marks.Dot a.0.1 o.0 o.1 ∙ ap (λ x. Sign marks.Dot ∷ x) (taken_word o.0 b.0.0 b.0.1 b.1)))
    ]

argument-sound : (ts : List Symbol) (a : Argument) (r : List Symbol) → read_argument ts ≡ Some (a, r) → ts ≡ phrase_then (argument_phrase a) r
argument-sound ts a r h =
    elim (chosen (take_word ts) _ _ _ h) as (λ _. ts ≡ phrase_then (argument_phrase a) r) [
      | inr o ↦ carried (λ x y. ts ≡ phrase_then (argument_phrase x) y) (Name o.0.0) a o.0.1 r o.2 (taken_word ts o.0.0 o.0.1 o.1)
      | inl o ↦
          let b = bound (take_literal ts) _ _ o.1 in
          carried (λ x y. ts ≡ phrase_then (argument_phrase x) y) (Text b.0.0) a b.0.1 r b.2 (taken_literal ts b.0.0 b.0.1 b.1)
    ]

text-sound : (ts : List Symbol) (t : Option Literal) (r : List Symbol) → read_text ts ≡ Some (t, r) → ts ≡ phrase_then (text_phrase t) r
text-sound ts t r h =
    elim (chosen (after_sign marks.Comma ts) _ _ _ h) as (λ _. ts ≡ phrase_then (text_phrase t) r) [
      | inl o ↦ carried (λ x y. ts ≡ phrase_then (text_phrase x) y) None t ts r o.1 refl
      | inr o ↦
          let b = bound (take_literal o.0) _ _ o.2 in
          carried (λ x y. ts ≡ phrase_then (text_phrase x) y) (Some b.0.0) t b.0.1 r b.2
          (taken marks.Comma ts o.0 o.1 ∙ ap (λ x. Sign marks.Comma ∷ x) (taken_literal o.0 b.0.0 b.0.1 b.1))
    ]

pub callout-sound : (ts : List Symbol) (c : WrittenCallout) (r : List Symbol) → read_callout ts ≡ Some (c, r) → ts ≡ phrase_then (callout_phrase c) r
callout-sound ts c r h =
    elim (chosen (take_word ts) _ _ _ h) as (λ _. ts ≡ phrase_then (callout_phrase c) r) [
      | inl o ↦
          let b = bound (take_symbol is_integer ts) _ _ o.1 in
          let t = take_symbol_some is_integer ts b.0.0 b.0.1 b.1 in
          carried (λ x y. ts ≡ phrase_then (callout_phrase x) y) (Digit b.0.0) c b.0.1 r b.2 t.0
      | inr o ↦
          let a = bound (after_sign marks.OpenParen o.0.1) _ _ o.2 in
          let x = bound (read_argument a.0) _ _ a.2 in
          let t = bound (read_text x.0.1) _ _ x.2 in
          let e = bound (after_sign marks.CloseParen t.0.1) _ _ t.2 in
          let end : x.0.1 ≡ phrase_then (text_phrase t.0.0) (Sign marks.CloseParen ∷ e.0) =
          text-sound x.0.1 t.0.0 t.0.1 t.1 ∙ ap (λ z. phrase_then (text_phrase t.0.0) z) (taken marks.CloseParen t.0.1 e.0 e.1) in
          let inside : a.0 ≡ phrase_then (argument_phrase x.0.0) (phrase_then (text_phrase t.0.0) (Sign marks.CloseParen ∷ e.0)) =
          argument-sound a.0 x.0.0 x.0.1 x.1 ∙ ap (λ z. phrase_then (argument_phrase x.0.0) z) end in
          let behind : o.0.1 ≡ Sign marks.OpenParen ∷ phrase_then (argument_phrase x.0.0) (phrase_then (text_phrase t.0.0) (Sign marks.CloseParen ∷ e.0)) =
          taken marks.OpenParen o.0.1 a.0 a.1 ∙ ap (λ z. Sign marks.OpenParen ∷ z) inside in
          carried (λ z y. ts ≡ phrase_then (callout_phrase z) y) (Asked o.0.0 x.0.0 t.0.0) c e.0 r e.2 (taken_word ts o.0.0 o.0.1 o.1 ∙ ap (λ z. Word o.0.0 ∷ z) behind)
    ]
