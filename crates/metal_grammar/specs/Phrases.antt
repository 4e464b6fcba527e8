-- The tokens of a written text: those of its line of the grammar.
use Rattle.std.specs.Prelude.{ℕ, zero, suc, Bool, true, false, List, [], ◌∷◌, map, Option, None, Some}
use Rattle.c_tree.specs.declared.punctuator.Punctuator.TheVariants as marks
use Rattle.c_tree.specs.Symbol.{Symbol, Word, Reserved, Sign, StringLiteral}
use Rattle.c_tree.specs.Phrase.{Phrase, nothing, one, all, ◌⨾◌, phrase_then, sign, keyword}
use Rattle.c_tree.specs.Tokens.{word_of, phrase_of}
use Rattle.metal_grammar.specs.Words.{Literal}
use Rattle.metal_grammar.specs.Written.{Row, lone, row, WrittenType, KindOfHole, BasicType, TagType, Declaration, StateName, OfMachine, OfVariable, Argument, Name, Text, WrittenCallout, Digit, Asked, WrittenItem, Pattern, Callout, Dollars, Destination, To, Split, WrittenAction, Alternative, WrittenRule, Section, Content, Nothing, Declares, Rules, Clause}

abbrev pub word : ℕ → Phrase
word name = one (Word name)

-- one or more, with a punctuator between
abbrev pub row_phrase : {A : Type 0} → Phrase → (A → Phrase) → Row A → Phrase
row_phrase between phrase (lone x) = phrase x
row_phrase between phrase (row x xs) = phrase x ⨾ between ⨾ row_phrase between phrase xs

abbrev pub each_phrase : {A : Type 0} → (A → Phrase) → List A → Phrase
each_phrase phrase [] = nothing
each_phrase phrase (x ∷ xs) = phrase x ⨾ each_phrase phrase xs

abbrev pub maybe_phrase : {A : Type 0} → (A → Phrase) → Option A → Phrase
maybe_phrase phrase None = nothing
maybe_phrase phrase (Some x) = phrase x

abbrev pub sign_if : Bool → Phrase → Phrase
sign_if true p = p
sign_if false p = nothing

abbrev pub stars : ℕ → List Symbol
stars zero = []
stars (suc n) = Sign marks.Star ∷ stars n

abbrev pub type_phrase : WrittenType → Phrase
type_phrase (KindOfHole name) = word name
type_phrase (BasicType words n) = all (map Reserved words) ⨾ all (stars n)
type_phrase (TagType which tag n) = keyword (word_of which) ⨾ word tag ⨾ all (stars n)

abbrev pub declaration_phrase : Declaration → Phrase
declaration_phrase d = maybe_phrase word d.state ⨾ word d.decl ⨾ type_phrase d.type ⨾ row_phrase (sign marks.Comma) word d.names ⨾ sign marks.Semicolon

abbrev pub state_phrase : StateName → Phrase
state_phrase (OfMachine state) = word state
state_phrase (OfVariable variable state) = word variable ⨾ sign marks.Dot ⨾ word state

abbrev pub literal_phrase : Literal → Phrase
literal_phrase literal = one (StringLiteral literal.wide literal.name)

abbrev pub argument_phrase : Argument → Phrase
argument_phrase (Name name) = word name
argument_phrase (Text literal) = literal_phrase literal

-- a comma and a text, if they are there
abbrev pub text_phrase : Option Literal → Phrase
text_phrase None = nothing
text_phrase (Some literal) = sign marks.Comma ⨾ literal_phrase literal

abbrev pub callout_phrase : WrittenCallout → Phrase
callout_phrase (Digit digit) = one digit
callout_phrase (Asked name argument text) = word name ⨾ sign marks.OpenParen ⨾ argument_phrase argument ⨾ text_phrase text ⨾ sign marks.CloseParen

abbrev pub item_phrase : WrittenItem → Phrase
item_phrase (Pattern e semicolon) = sign marks.OpenBrace ⨾ phrase_of e ⨾ sign_if semicolon (sign marks.Semicolon) ⨾ sign marks.CloseBrace
item_phrase (Callout negated callout) = sign marks.Dollar ⨾ sign marks.OpenBrace ⨾ sign_if negated (sign marks.Exclamation) ⨾ callout_phrase callout ⨾ sign marks.CloseBrace
item_phrase (Dollars name) = sign marks.Dollar ⨾ word name ⨾ sign marks.Dollar

abbrev pub alternative_phrase : Alternative → Phrase
alternative_phrase items = row_phrase (sign marks.AndAnd) item_phrase items

abbrev pub destination_phrase : Destination → Phrase
destination_phrase (To target) = state_phrase target
destination_phrase (Split true_word on_true false_word on_false) = word true_word ⨾ sign marks.Assign ⨾ state_phrase on_true ⨾ sign marks.Comma ⨾ word false_word ⨾ sign marks.Assign ⨾ state_phrase on_false

abbrev pub identifier_phrase : ℕ × ℕ → Phrase
identifier_phrase argument = sign marks.Comma ⨾ word argument.0 ⨾ sign marks.OpenParen ⨾ word argument.1 ⨾ sign marks.CloseParen

abbrev pub literals_phrase : Row Literal → Phrase
literals_phrase literals = row_phrase nothing literal_phrase literals

abbrev pub action_phrase : WrittenAction → Phrase
action_phrase a =
    sign marks.Comma ⨾ sign marks.OpenBrace ⨾ word a.word ⨾ sign marks.OpenParen ⨾ literals_phrase a.literals ⨾ each_phrase identifier_phrase a.arguments
    ⨾ sign marks.CloseParen ⨾ sign_if a.semicolon (sign marks.Semicolon) ⨾ sign marks.CloseBrace

abbrev pub rule_phrase : WrittenRule → Phrase
rule_phrase r = row_phrase (sign marks.OrOr) alternative_phrase r.alternatives ⨾ sign marks.LongArrow ⨾ destination_phrase r.destination ⨾ maybe_phrase action_phrase r.action

abbrev pub section_phrase : Section → Phrase
section_phrase s = state_phrase s.source ⨾ sign marks.Colon ⨾ row_phrase (sign marks.Bar) rule_phrase s.rules ⨾ sign marks.Semicolon

abbrev pub content_phrase : Content → Phrase
content_phrase Nothing = nothing
content_phrase (Declares d) = declaration_phrase d
content_phrase (Rules s) = section_phrase s

abbrev pub head_phrase : ℕ × ℕ → Phrase
head_phrase head = word head.0 ⨾ word head.1 ⨾ sign marks.OpenBrace

abbrev pub clause_phrase : Clause → Phrase
clause_phrase c = maybe_phrase head_phrase c.head ⨾ content_phrase c.content ⨾ sign_if c.closing (sign marks.CloseBrace)

abbrev pub phrase_tokens : Phrase → List Symbol
phrase_tokens p = phrase_then p []

abbrev pub clause_tokens : Clause → List Symbol
clause_tokens c = phrase_tokens (clause_phrase c)
