-- Where the contents of all strings are names, the texts of all callouts are.
use Rattle.std.proofs.Common.{◌≡◌, List, [], ◌∷◌, ◌++◌, None, Some, subst}
use Rattle.c_tree.specs.Symbol.{Symbol}
use Rattle.c_tree.specs.Phrase.{Phrase, nothing, one, all, ◌⨾◌, phrase_then}
use Rattle.metal_grammar.specs.Words.{Spelling}
use Rattle.metal_grammar.specs.Written.{Row, lone, row, Name, Text, WrittenCallout, Digit, Asked, WrittenItem, Pattern, Callout, Dollars, WrittenRule, Content, Nothing, Declares, Rules, Clause}
use Rattle.metal_grammar.specs.Phrases.{row_phrase, callout_phrase, item_phrase, alternative_phrase, rule_phrase, content_phrase, clause_phrase}
use Rattle.metal_grammar.specs.Callouts.{literal_asked}
use Rattle.metal_grammar.specs.Grammar.{EachIs, IsText, text_tokens}
use Rattle.metal_grammar.specs.Known.{IsKnown, ItemIsKnown, RuleIsKnown, ContentIsKnown, AreKnown, SymbolIsKnown, StringsAreKnown}
use Rattle.metal_grammar.specs.Theorems.{TextsAreKnown}
use Rattle.metal_grammar.proofs.Whole.{texts_are_their_tokens}

-- the strings of a phrase
abbrev pub InPhrase : Spelling → Phrase → Type 0
InPhrase spelling nothing = Unit {0}
InPhrase spelling (one t) = SymbolIsKnown spelling t
InPhrase spelling (all ts) = StringsAreKnown spelling ts
InPhrase spelling (p ⨾ q) = InPhrase spelling p × InPhrase spelling q

appended : (spelling : Spelling) (xs ys : List Symbol) → StringsAreKnown spelling (xs ++ ys) → StringsAreKnown spelling xs × StringsAreKnown spelling ys
appended spelling [] ys w = (tt, w)
appended spelling (x ∷ xs) ys w = let i = appended spelling xs ys w.1 in ((w.0, i.0), i.1)

parted : (spelling : Spelling) (p : Phrase) (ts : List Symbol) → StringsAreKnown spelling (phrase_then p ts) → InPhrase spelling p × StringsAreKnown spelling ts
parted spelling nothing ts w = (tt, w)
parted spelling (one t) ts w = (w.0, w.1)
parted spelling (all ss) ts w = appended spelling ss ts w
parted spelling (p ⨾ q) ts w =
    let a = parted spelling p (phrase_then q ts) w in
    let b = parted spelling q ts a.1 in
    ((a.0, b.0), b.1)

callout_known : (spelling : Spelling) (c : WrittenCallout) → InPhrase spelling (callout_phrase c) → IsKnown spelling (literal_asked c)
callout_known spelling (Digit digit) w = tt
callout_known spelling (Asked name (Name hole) None) w = tt
callout_known spelling (Asked name (Name hole) (Some text)) w = w.0.1.1
callout_known spelling (Asked name (Text text) other) w = w.0.0.1

item_known : (spelling : Spelling) (i : WrittenItem) → InPhrase spelling (item_phrase i) → ItemIsKnown spelling i
item_known spelling (Pattern e semicolon) w = tt
item_known spelling (Callout negated callout) w = callout_known spelling callout w.0.1
item_known spelling (Dollars name) w = tt

row_known : {A : Type 0} (spelling : Spelling) (between : Phrase) (phrase : A → Phrase) (Is : A → Type 0) → ((x : A) → InPhrase spelling (phrase x) → Is x) → (xs : Row A)
    → InPhrase spelling (row_phrase between phrase xs) → EachIs Is xs
row_known spelling between phrase Is f (lone x) w = f x w
row_known spelling between phrase Is f (row x xs) w = (f x w.0.0, row_known spelling between phrase Is f xs w.1)

alternative_known : (spelling : Spelling) (items : Row WrittenItem) → InPhrase spelling (alternative_phrase items) → EachIs (ItemIsKnown spelling) items
alternative_known spelling items w = row_known spelling _ item_phrase (ItemIsKnown spelling) (item_known spelling) items w

rule_known : (spelling : Spelling) (r : WrittenRule) → InPhrase spelling (rule_phrase r) → RuleIsKnown spelling r
rule_known spelling r w = row_known spelling _ alternative_phrase (EachIs (ItemIsKnown spelling)) (alternative_known spelling) r.alternatives w.0.0.0

content_known : (spelling : Spelling) (c : Content) → InPhrase spelling (content_phrase c) → ContentIsKnown spelling c
content_known spelling Nothing w = tt
content_known spelling (Declares d) w = tt
content_known spelling (Rules s) w = row_known spelling _ rule_phrase (RuleIsKnown spelling) (rule_known spelling) s.rules w.0.1

clauses_known : (spelling : Spelling) (cs : List Clause) → StringsAreKnown spelling (text_tokens cs) → AreKnown spelling cs
clauses_known spelling [] w = tt
clauses_known spelling (c ∷ cs) w =
    let a = parted spelling (clause_phrase c) (text_tokens cs) w in
    (content_known spelling c.content a.0.0.1, clauses_known spelling cs a.1)

tokens : (spelling : Spelling) (ts : List Symbol) (cs : List Clause) → IsText spelling cs ts → ts ≡ text_tokens cs
tokens spelling ts cs w = let p = texts_are_their_tokens spelling ts cs in let q = p.0 w in q.0

pub texts_are_known : TextsAreKnown
texts_are_known spelling ts cs k w = clauses_known spelling cs (subst (StringsAreKnown spelling) (tokens spelling ts cs w) k)
