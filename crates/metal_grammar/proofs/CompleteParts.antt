-- Each type, name of a state, callout and row of things is read, where what follows doesn't go on with it.
use Rattle.std.proofs.Common.{◌≡◌, ℕ, zero, suc, ◌+◌, ◌≤◌, Bool, true, false, List, [], ◌∷◌, ◌++◌, length, map, filter_map, Option, None, Some, ap, refl, arith}
use Rattle.c_tree.specs.declared.keyword.Keyword.{Keyword}
use Rattle.c_tree.specs.declared.operator.StructOrUnion.TheVariants as which_word
use Rattle.c_tree.specs.declared.punctuator.Punctuator.{Punctuator}
use Rattle.c_tree.specs.declared.punctuator.Punctuator.TheVariants as marks
use Rattle.c_tree.specs.Symbol.{Symbol, Reserved, Sign, IntLiteral}
use Rattle.c_tree.specs.Phrase.{Phrase, phrase_then, sign}
use Rattle.c_grammar.specs.Symbols.{is_sign, after_sign, begins, AreAll}
use Rattle.c_grammar.specs.Specifiers.{is_among, is_basic}
use Rattle.c_grammar.proofs.Options.{both}
use Rattle.c_grammar.proofs.Front.{sign_here, take_symbol_here, run_of-here, after_run-here}
use Rattle.c_grammar.proofs.Longer.{longer}
use Rattle.metal_grammar.specs.Words.{Spelling, Literal}
use Rattle.metal_grammar.specs.Written.{Row, lone, row, WrittenType, KindOfHole, BasicType, TagType, StateName, OfMachine, OfVariable, Argument, Name, Text, WrittenCallout, Digit, Asked}
use Rattle.metal_grammar.specs.Phrases.{row_phrase, stars, type_phrase, state_phrase, argument_phrase, text_phrase, callout_phrase}
use Rattle.metal_grammar.specs.Grammar.{each, EachIs, are_type_words, is_type, is_callout}
use Rattle.metal_grammar.specs.Ways.Steps.{Step, read_row, is_type_symbol, keyword_in, read_type, read_state, read_argument, read_text, read_callout}

-- the step reads each value of which this holds, where what follows is of this kind
abbrev pub Knows : {A : Type 0} → Step A → (A → Phrase) → (A → Type 0) → (List Symbol → Type 0) → Type 0
Knows {A} step phrase Is Ends = (x : A) (r : List Symbol) → Is x → Ends r → step (phrase_then (phrase x) r) ≡ Some (x, r)

-- each of a row meets both
pub each_both : {A : Type 0} (Is : A → Type 0) (is : A → Bool) (xs : Row A) → EachIs Is xs → each is xs ≡ true → EachIs (λ x. Is x × (is x ≡ true)) xs
each_both Is is (lone x) w h = (w, h)
each_both Is is (row x xs) w h = let b = both (is x) (each is xs) h in ((w.0, b.0), each_both Is is xs w.1 b.1)

abbrev pub count : {A : Type 0} → Row A → ℕ
count (lone x) = 1
count (row x xs) = count xs + 1

pub row_longer : {A : Type 0} (phrase : A → Phrase) (between : Punctuator) (xs : Row A) (r : List Symbol) → count xs ≤ suc (length (phrase_then (row_phrase (sign between) phrase xs) r))
row_longer phrase between (lone x) r = omega arith
row_longer phrase between (row x xs) r =
    let Y = phrase_then (row_phrase (sign between) phrase xs) r in
    let a = row_longer phrase between xs r in
    let b = longer (phrase x) (Sign between ∷ Y) in
    omega arith

pub row-complete : {A : Type 0} (step : Step A) (phrase : A → Phrase) (Is : A → Type 0) (Ends : List Symbol → Type 0) (between : Punctuator) (f : ℕ) (xs : Row A) (r : List Symbol)
    → Knows step phrase Is Ends → ((ts : List Symbol) → Ends (Sign between ∷ ts)) → EachIs Is xs → Ends r → after_sign between r ≡ None → count xs ≤ f
    → read_row step between f (phrase_then (row_phrase (sign between) phrase xs) r) ≡ Some (xs, r)
unfolding read_row
row-complete step phrase Is Ends between zero (lone x) r k b w e n c = absurd (omega arith)
row-complete step phrase Is Ends between zero (row x xs) r k b w e n c = absurd (omega arith)
row-complete step phrase Is Ends between (suc f) (lone x) r k b w e n c = rw (k x r w e, n) refl
row-complete step phrase Is Ends between (suc f) (row x xs) r k b w e n c =
    let Y = phrase_then (row_phrase (sign between) phrase xs) r in
    rw (k x (Sign between ∷ Y) w.0 (b Y), sign_here between Y, row-complete step phrase Is Ends between f xs r k b w.1 e n (omega arith)) refl

keywords_all : (ks : List Keyword) → are_type_words ks ≡ true → AreAll is_type_symbol (map Reserved ks)
keywords_all [] h = tt
keywords_all (k ∷ ks) h = let b = both _ (are_type_words ks) h in (b.0, keywords_all ks b.1)

keywords_same : (ks : List Keyword) → filter_map keyword_in (map Reserved ks) ≡ ks
keywords_same [] = refl
keywords_same (k ∷ ks) = ap (λ x. k ∷ x) (keywords_same ks)

stars_all : (n : ℕ) → AreAll (is_sign marks.Star) (stars n)
stars_all zero = tt
stars_all (suc n) = (refl, stars_all n)

stars_count : (n : ℕ) → length (stars n) ≡ n
stars_count zero = refl
stars_count (suc n) = ap suc (stars_count n)

stars_no_word : (n : ℕ) (r : List Symbol) → begins is_type_symbol r ≡ false → begins is_type_symbol (stars n ++ r) ≡ false
stars_no_word zero r h = h
stars_no_word (suc n) r h = refl

pub no_words : is_basic [] ≡ false
unfolding is_among
no_words = refl

-- no type goes on with what follows: neither a star nor a word of a type
abbrev pub EndsType : List Symbol → Type 0
EndsType r = (begins (is_sign marks.Star) r ≡ false) × (begins is_type_symbol r ≡ false)

pub type-complete : (t : WrittenType) (r : List Symbol) → is_type t ≡ true → EndsType r → read_type (phrase_then (type_phrase t) r) ≡ Some (t, r)
type-complete (KindOfHole name) r h e = refl
type-complete (BasicType [] n) r h e = let c = no_words in cc
type-complete (BasicType (k ∷ ks) n) r h e =
    let w = both (are_type_words (k ∷ ks)) (is_basic (k ∷ ks)) h in
    let v = both _ (are_type_words ks) w.0 in
    let Y = stars n ++ r in
    let y = stars_no_word n r e.1 in
    let a = keywords_all (k ∷ ks) w.0 in
    rw (
      take_symbol_here is_type_symbol (Reserved k) (map Reserved ks ++ Y) v.0,
      run_of-here is_type_symbol (map Reserved (k ∷ ks)) Y a y,
      after_run-here is_type_symbol (map Reserved (k ∷ ks)) Y a y,
      keywords_same (k ∷ ks),
      run_of-here (is_sign marks.Star) (stars n) r (stars_all n) e.0,
      after_run-here (is_sign marks.Star) (stars n) r (stars_all n) e.0,
      stars_count n,
    ) refl
type-complete (TagType which_word.Struct tag n) r h e =
    rw (run_of-here (is_sign marks.Star) (stars n) r (stars_all n) e.0, after_run-here (is_sign marks.Star) (stars n) r (stars_all n) e.0, stars_count n) refl
type-complete (TagType which_word.Union tag n) r h e =
    rw (run_of-here (is_sign marks.Star) (stars n) r (stars_all n) e.0, after_run-here (is_sign marks.Star) (stars n) r (stars_all n) e.0, stars_count n) refl

pub state-complete : (s : StateName) (r : List Symbol) → after_sign marks.Dot r ≡ None → read_state (phrase_then (state_phrase s) r) ≡ Some (s, r)
state-complete (OfMachine state) r h = rw (h) refl
state-complete (OfVariable variable state) r h = refl

argument-complete : (a : Argument) (r : List Symbol) → read_argument (phrase_then (argument_phrase a) r) ≡ Some (a, r)
argument-complete (Name name) r = refl
argument-complete (Text literal) r = refl

text-complete : (t : Option Literal) (r : List Symbol) → read_text (phrase_then (text_phrase t) (Sign marks.CloseParen ∷ r)) ≡ Some (t, Sign marks.CloseParen ∷ r)
text-complete None r = refl
text-complete (Some literal) r = refl

pub callout-complete : (spelling : Spelling) (c : WrittenCallout) (r : List Symbol) → is_callout spelling c ≡ true → read_callout (phrase_then (callout_phrase c) r) ≡ Some (c, r)
callout-complete spelling (Digit (IntLiteral value name)) r h = refl
callout-complete spelling (Digit _) r h = cc
callout-complete spelling (Asked name argument text) r h =
    rw (argument-complete argument (phrase_then (text_phrase text) (Sign marks.CloseParen ∷ r)), text-complete text r) refl
