-- Phrases in which no rule begins.
use Rattle.std.proofs.Common.{◌≡◌, ℕ, zero, suc, ◌+◌, Bool, true, false, not, ◌&&◌, ◌||◌, List, [], ◌∷◌, ◌++◌, length, map, Option, None, Some, ap, refl, ◌∙◌, sym, append-nil, arith}
use Rattle.c_tree.specs.declared.keyword.Keyword.{Keyword}
use Rattle.c_tree.specs.declared.operator.StructOrUnion.TheVariants as which_word
use Rattle.c_tree.specs.declared.punctuator.Punctuator.{Punctuator}
use Rattle.c_tree.specs.declared.punctuator.Punctuator.TheVariants as marks
use Rattle.c_tree.specs.Symbol.{Symbol, Sign, Reserved}
use Rattle.c_tree.specs.Phrase.{Phrase, nothing, one, all, ◌⨾◌, phrase_then, sign}
use Rattle.c_tree.specs.Tokens.{phrase_of}
use Rattle.c_grammar.specs.Symbols.{is_sign, AreAll}
use Rattle.c_grammar.proofs.Options.{both, neither}
use Rattle.metal_grammar.specs.Words.{Spelling}
use Rattle.metal_grammar.specs.Written.{Row, lone, row, WrittenType, KindOfHole, BasicType, TagType, StateName, OfMachine, OfVariable, WrittenItem, Pattern, Callout, Dollars, Destination, To, Split, WrittenAction, Alternative, WrittenRule}
use Rattle.metal_grammar.specs.Phrases.{word, row_phrase, each_phrase, maybe_phrase, sign_if, stars, type_phrase, state_phrase, callout_phrase, literals_phrase, item_phrase, alternative_phrase, destination_phrase, identifier_phrase, action_phrase, rule_phrase}
use Rattle.metal_grammar.specs.Holes.{DeclaredHole, Operand, are_placed}
use Rattle.metal_grammar.specs.Patterns.{has_plain_types}
use Rattle.metal_grammar.specs.Rules.{size}
use Rattle.metal_grammar.specs.Grammar.{each, EachIs, IsItem, IsAlternative, is_item, is_alternative, is_destination, is_action}
use Rattle.metal_grammar.proofs.CompleteParts.{each_both}
use Rattle.metal_grammar.proofs.CompleteRules.{ItemIs, AlternativeIs, RuleIs}
use Rattle.metal_grammar.proofs.Plain.{is_quiet, IsPlain, expression_plain}
use Rattle.metal_grammar.proofs.Passing.{callout_plain, negation_plain, literals_plain, identifiers_plain}
use Rattle.metal_written.proofs.InSizes.{size-two}
use Rattle.metal_reader.specs.MetalPositions.Positions.{beginnings}

-- neither a brace nor what a rule begins behind
abbrev pub is_calm : Symbol → Bool
is_calm t = not (is_sign marks.OpenBrace t || is_sign marks.CloseBrace t || is_sign marks.Colon t || is_sign marks.Bar t)

-- no rule begins in the phrase, and as many braces are open behind it as before it
abbrev pub Skips : ℕ → Phrase → Type 0
Skips d p = (q : ℕ) (r : List Symbol) → beginnings d q (phrase_then p r) ≡ beginnings d (q + size p) r

pub nothing_skips : (d q : ℕ) (r : List Symbol) → beginnings d q r ≡ beginnings d (q + 0) r
nothing_skips d q r = let e : q ≡ q + 0 = omega arith in ap (λ k. beginnings d k r) e

abbrev SkipsEach : ℕ → (Symbol → Bool) → Type 0
SkipsEach d is = (t : Symbol) → is t ≡ true → (q : ℕ) (r : List Symbol) → beginnings d q (t ∷ r) ≡ beginnings d (q + 1) r

abbrev pub IsMade : (Symbol → Bool) → Phrase → Type 0
IsMade is nothing = Unit {0}
IsMade is (one s) = is s ≡ true
IsMade is (all ss) = AreAll is ss
IsMade is (p ⨾ q) = IsMade is p × IsMade is q

pub then_skips : (d : ℕ) (p s : Phrase) → Skips d p → Skips d s → Skips d (p ⨾ s)
then_skips d p s a b q r =
    let t = size-two p s in
    let e : q + size p + size s ≡ q + size (p ⨾ s) = omega (arith, t) in
    a q (phrase_then s r) ∙ b (q + size p) r ∙ ap (λ k. beginnings d k r) e

all_skip : (d : ℕ) (is : Symbol → Bool) → SkipsEach d is → (ss : List Symbol) → AreAll is ss → (q : ℕ) (r : List Symbol) → beginnings d q (ss ++ r) ≡ beginnings d (q + length ss) r
all_skip d is step [] w q r = nothing_skips d q r
all_skip d is step (s ∷ ss) w q r =
    let e : q + 1 + length ss ≡ q + suc (length ss) = omega arith in
    step s w.0 q (ss ++ r) ∙ all_skip d is step ss w.1 (q + 1) r ∙ ap (λ k. beginnings d k r) e

made_skips : (d : ℕ) (is : Symbol → Bool) → SkipsEach d is → (p : Phrase) → IsMade is p → Skips d p
made_skips d is step nothing w q r = nothing_skips d q r
made_skips d is step (one s) w q r = step s w q r
made_skips d is step (all ss) w q r = all_skip d is step ss w q r ∙ ap (λ k. beginnings d (q + k) r) (sym (ap length (append-nil ss)))
made_skips d is step (p ⨾ s) w q r = then_skips d p s (made_skips d is step p w.0) (made_skips d is step s w.1) q r

un_not : (b : Bool) → not b ≡ true → b ≡ false
un_not true h = cc
un_not false h = refl

calm_step : SkipsEach 1 is_calm
calm_step t h q r =
    let a = neither (is_sign marks.OpenBrace t || is_sign marks.CloseBrace t || is_sign marks.Colon t) (is_sign marks.Bar t) (un_not _ h) in
    let b = neither (is_sign marks.OpenBrace t || is_sign marks.CloseBrace t) (is_sign marks.Colon t) a.0 in
    let c = neither (is_sign marks.OpenBrace t) (is_sign marks.CloseBrace t) b.0 in
    rw (c.0, c.1, b.1, a.1) refl

quiet_step : SkipsEach 2 is_quiet
quiet_step t h q r =
    let a = neither (is_sign marks.OpenBrace t || is_sign marks.CloseBrace t) (is_sign marks.Semicolon t) (un_not _ h) in
    let b = neither (is_sign marks.OpenBrace t) (is_sign marks.CloseBrace t) a.0 in
    rw (b.0, b.1) refl

pub calm : (p : Phrase) → IsMade is_calm p → Skips 1 p
calm p w = made_skips 1 is_calm calm_step p w

plain_made : (p : Phrase) → IsPlain p → IsMade is_quiet p
plain_made nothing w = tt
plain_made (one s) w = w
plain_made (all ss) w = w
plain_made (p ⨾ q) w = (plain_made p w.0, plain_made q w.1)

inside : (p : Phrase) → IsPlain p → Skips 2 p
inside p w = made_skips 2 is_quiet quiet_step p (plain_made p w)

semicolon_if : (b : Bool) → Skips 2 (sign_if b (sign marks.Semicolon))
semicolon_if true q r = refl
semicolon_if false q r = nothing_skips 2 q r

-- what is skipped inside further braces is skipped with them
braced : (p : Phrase) → Skips 2 p → Skips 1 (sign marks.OpenBrace ⨾ p ⨾ sign marks.CloseBrace)
braced p a q r =
    let s = size-two (sign marks.OpenBrace ⨾ p) (sign marks.CloseBrace) in
    let t = size-two (sign marks.OpenBrace) p in
    let u : size (sign marks.OpenBrace) ≡ 1 = refl in
    let v : size (sign marks.CloseBrace) ≡ 1 = refl in
    let e : q + 1 + size p + 1 ≡ q + size (sign marks.OpenBrace ⨾ p ⨾ sign marks.CloseBrace) = omega (arith, s, t, u, v) in
    a (q + 1) (Sign marks.CloseBrace ∷ r) ∙ ap (λ k. beginnings 1 k r) e

row_skips : {A : Type 0} (phrase : A → Phrase) (Is : A → Type 0) (between : Punctuator) (xs : Row A)
    → ((x : A) → Is x → Skips 1 (phrase x)) → is_calm (Sign between) ≡ true → EachIs Is xs → Skips 1 (row_phrase (sign between) phrase xs)
row_skips phrase Is between (lone x) a c w = a x w
row_skips phrase Is between (row x xs) a c w =
    then_skips 1 (phrase x ⨾ sign between) (row_phrase (sign between) phrase xs)
    (then_skips 1 (phrase x) (sign between) (a x w.0) (calm (sign between) c))
    (row_skips phrase Is between xs a c w.1)

pub state_calm : (s : StateName) → IsMade is_calm (state_phrase s)
state_calm (OfMachine state) = refl
state_calm (OfVariable variable state) = ((refl, refl), refl)

words_calm : (ks : List Keyword) → AreAll is_calm (map Reserved ks)
words_calm [] = tt
words_calm (k ∷ ks) = (refl, words_calm ks)

stars_calm : (n : ℕ) → AreAll is_calm (stars n)
stars_calm zero = tt
stars_calm (suc n) = (refl, stars_calm n)

pub type_calm : (t : WrittenType) → IsMade is_calm (type_phrase t)
type_calm (KindOfHole name) = refl
type_calm (BasicType words n) = (words_calm words, stars_calm n)
type_calm (TagType which_word.Struct tag n) = ((refl, refl), stars_calm n)
type_calm (TagType which_word.Union tag n) = ((refl, refl), stars_calm n)

pub names_calm : (names : Row ℕ) → IsMade is_calm (row_phrase (sign marks.Comma) word names)
names_calm (lone name) = refl
names_calm (row name names) = ((refl, refl), names_calm names)

pub maybe_word_calm : (name : Option ℕ) → IsMade is_calm (maybe_phrase word name)
maybe_word_calm None = tt
maybe_word_calm (Some name) = refl

destination_calm : (d : Destination) → IsMade is_calm (destination_phrase d)
destination_calm (To target) = state_calm target
destination_calm (Split true_word on_true false_word on_false) = ((((((refl, refl), state_calm on_true), refl), refl), refl), state_calm on_false)

item_skips : (spelling : Spelling) (holes : List DeclaredHole) (i : WrittenItem) → ItemIs spelling holes i → Skips 1 (item_phrase i)
item_skips spelling holes (Pattern e b) w q r =
    let h = both (are_placed holes Operand e) (has_plain_types e) w.1 in
    let p = phrase_of e ⨾ sign_if b (sign marks.Semicolon) in
    braced p (then_skips 2 (phrase_of e) (sign_if b (sign marks.Semicolon)) (inside (phrase_of e) (expression_plain [] e w.0.0.1 h.1)) (semicolon_if b)) q r
item_skips spelling holes (Callout b c) w q r =
    let p = sign_if b (sign marks.Exclamation) ⨾ callout_phrase c in
    then_skips 1 (sign marks.Dollar) (sign marks.OpenBrace ⨾ p ⨾ sign marks.CloseBrace) (calm (sign marks.Dollar) refl) (braced p (inside p (negation_plain b, callout_plain spelling c w.1))) q r
item_skips spelling holes (Dollars name) w q r = calm (item_phrase (Dollars name)) ((refl, refl), refl) q r

alternative_skips : (spelling : Spelling) (holes : List DeclaredHole) (a : Alternative) → AlternativeIs spelling holes a → Skips 1 (alternative_phrase a)
alternative_skips spelling holes a w =
    let b = both (each (is_item spelling holes) a) _ w.1 in
    row_skips item_phrase (ItemIs spelling holes) marks.AndAnd a (item_skips spelling holes) refl (each_both IsItem (is_item spelling holes) a w.0 b.0)

action_skips : (a : Option WrittenAction) → Skips 1 (maybe_phrase action_phrase a)
action_skips None q r = nothing_skips 1 q r
action_skips (Some a) q r =
    let s = word a.word ⨾ sign marks.OpenParen ⨾ literals_phrase a.literals ⨾ each_phrase identifier_phrase a.arguments ⨾ sign marks.CloseParen in
    let semicolon = sign_if a.semicolon (sign marks.Semicolon) in
    let p = s ⨾ semicolon in
    then_skips 1 (sign marks.Comma) (sign marks.OpenBrace ⨾ p ⨾ sign marks.CloseBrace) (calm (sign marks.Comma) refl)
    (braced p (then_skips 2 s semicolon (inside s ((((refl, refl), literals_plain a.literals), identifiers_plain a.arguments), refl)) (semicolon_if a.semicolon))) q r

pub rule_skips : (spelling : Spelling) (holes : List DeclaredHole) (x : WrittenRule) → RuleIs spelling holes x → Skips 1 (rule_phrase x)
rule_skips spelling holes x w q r =
    let b = both (each (is_alternative spelling holes) x.alternatives && is_destination spelling x.destination) (is_action spelling x.action) w.1 in
    let c = both (each (is_alternative spelling holes) x.alternatives) (is_destination spelling x.destination) b.0 in
    let alternatives = row_phrase (sign marks.OrOr) alternative_phrase x.alternatives in
    let to = sign marks.LongArrow ⨾ destination_phrase x.destination in
    then_skips 1 (alternatives ⨾ to) (maybe_phrase action_phrase x.action)
    (then_skips 1 alternatives to
    (row_skips alternative_phrase (AlternativeIs spelling holes) marks.OrOr x.alternatives (alternative_skips spelling holes) refl (each_both IsAlternative (is_alternative spelling holes) x.alternatives w.0 c.0))
    (calm to (refl, destination_calm x.destination)))
    (action_skips x.action) q r
