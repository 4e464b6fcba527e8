-- No clause ends within a declaration or a section, but at its end.
use Rattle.std.proofs.Common.{◌≡◌, ℕ, zero, suc, Bool, true, false, ◌&&◌, List, [], ◌∷◌, map, Option, None, Some, refl}
use Rattle.c_tree.specs.declared.keyword.Keyword.{Keyword}
use Rattle.c_tree.specs.declared.operator.StructOrUnion.TheVariants as which_word
use Rattle.c_tree.specs.declared.punctuator.Punctuator.TheVariants as marks
use Rattle.c_tree.specs.Symbol.{Reserved, IntLiteral}
use Rattle.c_tree.specs.Phrase.{Phrase, nothing, ◌⨾◌, sign}
use Rattle.c_tree.specs.Tokens.{phrase_of}
use Rattle.c_grammar.specs.Symbols.{AreAll}
use Rattle.c_grammar.proofs.Options.{both}
use Rattle.metal_grammar.specs.Words.{Spelling, Literal}
use Rattle.metal_grammar.specs.Written.{Row, lone, row, WrittenType, KindOfHole, BasicType, TagType, StateName, OfMachine, OfVariable, Argument, Name, Text, WrittenCallout, Digit, Asked, WrittenItem, Pattern, Callout, Dollars, Destination, To, Split, WrittenAction, Alternative, WrittenRule, Content, Nothing, Declares, Rules}
use Rattle.metal_grammar.specs.Phrases.{word, row_phrase, each_phrase, maybe_phrase, sign_if, stars, type_phrase, state_phrase, argument_phrase, text_phrase, callout_phrase, literals_phrase, item_phrase, alternative_phrase, destination_phrase, identifier_phrase, action_phrase, rule_phrase}
use Rattle.metal_grammar.specs.Holes.{DeclaredHole, Operand, are_placed}
use Rattle.metal_grammar.specs.Patterns.{has_plain_types}
use Rattle.metal_grammar.specs.Grammar.{Before, each, IsItem, IsAlternative, IsRule, IsContent, is_item, is_callout, is_alternative, is_destination, is_action, is_rule, is_content}
use Rattle.metal_grammar.proofs.CompleteParts.{each_both}
use Rattle.metal_grammar.proofs.CompleteRules.{ItemIs, AlternativeIs, RuleIs}
use Rattle.metal_grammar.proofs.Plain.{is_quiet, IsPlain, expression_plain}
use Rattle.metal_grammar.proofs.Cuts.{Passes, plain, plain_inside, then, then_inside, semicolon_if_inside, braced, row_passes}

state_plain : (s : StateName) → IsPlain (state_phrase s)
state_plain (OfMachine state) = refl
state_plain (OfVariable variable state) = ((refl, refl), refl)

words_quiet : (ks : List Keyword) → AreAll is_quiet (map Reserved ks)
words_quiet [] = tt
words_quiet (k ∷ ks) = (refl, words_quiet ks)

stars_quiet : (n : ℕ) → AreAll is_quiet (stars n)
stars_quiet zero = tt
stars_quiet (suc n) = (refl, stars_quiet n)

type_plain : (t : WrittenType) → IsPlain (type_phrase t)
type_plain (KindOfHole name) = refl
type_plain (BasicType words n) = (words_quiet words, stars_quiet n)
type_plain (TagType which_word.Struct tag n) = ((refl, refl), stars_quiet n)
type_plain (TagType which_word.Union tag n) = ((refl, refl), stars_quiet n)

names_plain : (names : Row ℕ) → IsPlain (row_phrase (sign marks.Comma) word names)
names_plain (lone name) = refl
names_plain (row name names) = ((refl, refl), names_plain names)

maybe_word_plain : (name : Option ℕ) → IsPlain (maybe_phrase word name)
maybe_word_plain None = tt
maybe_word_plain (Some name) = refl

argument_plain : (a : Argument) → IsPlain (argument_phrase a)
argument_plain (Name name) = refl
argument_plain (Text literal) = refl

text_plain : (t : Option Literal) → IsPlain (text_phrase t)
text_plain None = tt
text_plain (Some literal) = (refl, refl)

pub callout_plain : (spelling : Spelling) (c : WrittenCallout) → is_callout spelling c ≡ true → IsPlain (callout_phrase c)
callout_plain spelling (Digit (IntLiteral value name)) h = refl
callout_plain spelling (Digit _) h = cc
callout_plain spelling (Asked name argument text) h = ((((refl, refl), argument_plain argument), text_plain text), refl)

pub negation_plain : (b : Bool) → IsPlain (sign_if b (sign marks.Exclamation))
negation_plain true = refl
negation_plain false = tt

pub literals_plain : (ls : Row Literal) → IsPlain (literals_phrase ls)
literals_plain (lone l) = refl
literals_plain (row l ls) = ((refl, tt), literals_plain ls)

pub identifiers_plain : (xs : List (ℕ × ℕ)) → IsPlain (each_phrase identifier_phrase xs)
identifiers_plain [] = tt
identifiers_plain (x ∷ xs) = (((((refl, refl), refl), refl), refl), identifiers_plain xs)

item_passes : (spelling : Spelling) (holes : List DeclaredHole) (i : WrittenItem) → ItemIs spelling holes i → Passes (item_phrase i)
item_passes spelling holes (Pattern e b) w d r =
    let h = both (are_placed holes Operand e) (has_plain_types e) w.1 in
    let p = phrase_of e ⨾ sign_if b (sign marks.Semicolon) in
    braced p (then_inside (phrase_of e) (sign_if b (sign marks.Semicolon)) (plain_inside (phrase_of e) (expression_plain [] e w.0.0.1 h.1)) (semicolon_if_inside b)) d r
item_passes spelling holes (Callout b c) w d r =
    let p = sign_if b (sign marks.Exclamation) ⨾ callout_phrase c in
    then (sign marks.Dollar) (sign marks.OpenBrace ⨾ p ⨾ sign marks.CloseBrace) (plain (sign marks.Dollar) refl) (braced p (plain_inside p (negation_plain b, callout_plain spelling c w.1))) d r
item_passes spelling holes (Dollars name) w d r = plain (item_phrase (Dollars name)) ((refl, refl), refl) d r

alternative_passes : (spelling : Spelling) (holes : List DeclaredHole) (a : Alternative) → AlternativeIs spelling holes a → Passes (alternative_phrase a)
alternative_passes spelling holes a w =
    let b = both (each (is_item spelling holes) a) _ w.1 in
    row_passes item_phrase (ItemIs spelling holes) marks.AndAnd a (item_passes spelling holes) refl (each_both IsItem (is_item spelling holes) a w.0 b.0)

destination_plain : (d : Destination) → IsPlain (destination_phrase d)
destination_plain (To target) = state_plain target
destination_plain (Split true_word on_true false_word on_false) = ((((((refl, refl), state_plain on_true), refl), refl), refl), state_plain on_false)

action_passes : (a : Option WrittenAction) → Passes (maybe_phrase action_phrase a)
action_passes None d r = refl
action_passes (Some a) d r =
    let q = word a.word ⨾ sign marks.OpenParen ⨾ literals_phrase a.literals ⨾ each_phrase identifier_phrase a.arguments ⨾ sign marks.CloseParen in
    let semicolon = sign_if a.semicolon (sign marks.Semicolon) in
    let p = q ⨾ semicolon in
    then (sign marks.Comma) (sign marks.OpenBrace ⨾ p ⨾ sign marks.CloseBrace) (plain (sign marks.Comma) refl)
    (braced p (then_inside q semicolon (plain_inside q ((((refl, refl), literals_plain a.literals), identifiers_plain a.arguments), refl)) (semicolon_if_inside a.semicolon))) d r

rule_passes : (spelling : Spelling) (holes : List DeclaredHole) (x : WrittenRule) → RuleIs spelling holes x → Passes (rule_phrase x)
rule_passes spelling holes x w d r =
    let b = both (each (is_alternative spelling holes) x.alternatives && is_destination spelling x.destination) (is_action spelling x.action) w.1 in
    let c = both (each (is_alternative spelling holes) x.alternatives) (is_destination spelling x.destination) b.0 in
    let alternatives = row_phrase (sign marks.OrOr) alternative_phrase x.alternatives in
    let to = sign marks.LongArrow ⨾ destination_phrase x.destination in
    then (alternatives ⨾ to) (maybe_phrase action_phrase x.action)
    (then alternatives to
    (row_passes alternative_phrase (AlternativeIs spelling holes) marks.OrOr x.alternatives (alternative_passes spelling holes) refl (each_both IsAlternative (is_alternative spelling holes) x.alternatives w.0 c.0))
    (plain to (refl, destination_plain x.destination)))
    (action_passes x.action) d r

-- a content without the `;` at its end
abbrev pub body : Content → Phrase
body Nothing = nothing
body (Declares d) = maybe_phrase word d.state ⨾ word d.decl ⨾ type_phrase d.type ⨾ row_phrase (sign marks.Comma) word d.names
body (Rules s) = state_phrase s.source ⨾ sign marks.Colon ⨾ row_phrase (sign marks.Bar) rule_phrase s.rules

pub body_passes : (spelling : Spelling) (before : Before) (c : Content) → is_content spelling before c ≡ true → IsContent c → Passes (body c)
body_passes spelling before Nothing h w d r = refl
body_passes spelling before (Declares x) h w d r =
    plain (body (Declares x)) (((maybe_word_plain x.state, refl), type_plain x.type), names_plain x.names) d r
body_passes spelling before (Rules s) h w d r =
    let head = state_phrase s.source ⨾ sign marks.Colon in
    let rules = row_phrase (sign marks.Bar) rule_phrase s.rules in
    then head rules (plain head (state_plain s.source, refl))
    (row_passes rule_phrase (RuleIs spelling before.holes) marks.Bar s.rules (rule_passes spelling before.holes) refl (each_both IsRule (is_rule spelling before.holes) s.rules w h)) d r
