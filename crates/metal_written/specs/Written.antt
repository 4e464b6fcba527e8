-- The written text that what was read stands for. No list that the grammar has as a row is empty.
use Rattle.std.specs.Prelude.{ℕ, List, [], ◌∷◌, map, filter_map, false, Option, None}
use Rattle.std.specs.Borrow.{Bor}
use Rattle.std.specs.Option.{option_map}
use Rattle.c_tree.specs.Forget.{view}
use Rattle.c_tree.specs.Symbol.{symbol_of, symbols_of}
use Rattle.metal_grammar.specs.Ways.Steps.{keyword_in}
use Rattle.metal_grammar.specs.Words as words
use Rattle.metal_grammar.specs.Written as text
use Rattle.metal_written.specs.declared.written.Literal.{Literal}
use Rattle.metal_written.specs.declared.written.WrittenType.{WrittenType}
use Rattle.metal_written.specs.declared.written.WrittenType.TheVariants as types
use Rattle.metal_written.specs.declared.written.Declaration.{Declaration}
use Rattle.metal_written.specs.declared.written.StateName.{StateName}
use Rattle.metal_written.specs.declared.written.StateName.TheVariants as states
use Rattle.metal_written.specs.declared.written.Argument.{Argument}
use Rattle.metal_written.specs.declared.written.Argument.TheVariants as arguments
use Rattle.metal_written.specs.declared.written.WrittenCallout.{WrittenCallout}
use Rattle.metal_written.specs.declared.written.WrittenCallout.TheVariants as callouts
use Rattle.metal_written.specs.declared.written.WrittenItem.{WrittenItem}
use Rattle.metal_written.specs.declared.written.WrittenItem.TheVariants as items
use Rattle.metal_written.specs.declared.written.WrittenAlternative.{WrittenAlternative}
use Rattle.metal_written.specs.declared.written.Destination.{Destination}
use Rattle.metal_written.specs.declared.written.Destination.TheVariants as destinations
use Rattle.metal_written.specs.declared.written.Identifier.{Identifier}
use Rattle.metal_written.specs.declared.written.WrittenAction.{WrittenAction}
use Rattle.metal_written.specs.declared.written.WrittenRule.{WrittenRule}
use Rattle.metal_written.specs.declared.written.Section.{Section}
use Rattle.metal_written.specs.declared.written.Content.{Content}
use Rattle.metal_written.specs.declared.written.Content.TheVariants as contents
use Rattle.metal_written.specs.declared.written.Head.{Head}
use Rattle.metal_written.specs.declared.written.Clause.{Clause}

-- a list as a row; the first argument stands for the row of an empty one
abbrev pub row_from : {A : Type 0} → A → List A → text.Row A
row_from none [] = text.lone none
row_from none (x ∷ []) = text.lone x
row_from none (x ∷ y ∷ ys) = text.row x (row_from none (y ∷ ys))

abbrev pub name_row : Bor (List ℕ) → text.Row ℕ
name_row names = row_from 0 names.now

abbrev pub literal_view : Literal → words.Literal
literal_view l = record { wide = l.wide; name = l.name }

abbrev pub literal_views : List Literal → List words.Literal
literal_views ls = map literal_view ls

abbrev pub no_literal : words.Literal
no_literal = record { wide = false; name = 0 }

abbrev pub literals_row : Bor (List Literal) → text.Row words.Literal
literals_row ls = row_from no_literal (literal_views ls.now)

abbrev pub maybe_literal_view : Option Literal → Option words.Literal
maybe_literal_view l = option_map literal_view l

abbrev pub type_view : WrittenType → text.WrittenType
type_view (types.Kind name) = text.KindOfHole name
type_view (types.Basic ws stars) = text.BasicType (filter_map keyword_in (symbols_of ws.now)) stars
type_view (types.Tag which tag stars) = text.TagType which tag stars

abbrev pub declaration_view : Declaration → text.Declaration
declaration_view d = record { state = d.state; decl = d.decl; type = type_view d.of; names = name_row d.names }

abbrev pub state_view : StateName → text.StateName
state_view (states.OfMachine state) = text.OfMachine state
state_view (states.OfVariable variable state) = text.OfVariable variable state

abbrev pub argument_view : Argument → text.Argument
argument_view (arguments.Name name) = text.Name name
argument_view (arguments.Text l) = text.Text (literal_view l)

abbrev pub callout_view : WrittenCallout → text.WrittenCallout
callout_view (callouts.Digit token) = text.Digit (symbol_of token.now)
callout_view (callouts.Asked name argument other) = text.Asked name (argument_view argument) (maybe_literal_view other)

abbrev pub item_view : WrittenItem → text.WrittenItem
item_view (items.Pattern tree semicolon) = text.Pattern (view tree.now) semicolon
item_view (items.Callout negated callout) = text.Callout negated (callout_view callout)
item_view (items.Dollars name) = text.Dollars name

abbrev pub no_item : text.WrittenItem
no_item = text.Dollars 0

abbrev pub alternative_view : WrittenAlternative → text.Alternative
alternative_view a = row_from no_item (map item_view a.items.now)

abbrev pub no_alternative : text.Alternative
no_alternative = text.lone no_item

abbrev pub alternatives_in : List WrittenAlternative → text.Row text.Alternative
alternatives_in all = row_from no_alternative (map alternative_view all)

abbrev pub alternatives_row : Bor (List WrittenAlternative) → text.Row text.Alternative
alternatives_row all = alternatives_in all.now

abbrev pub destination_view : Destination → text.Destination
destination_view (destinations.To target) = text.To (state_view target)
destination_view (destinations.Split true_word on_true false_word on_false) = text.Split true_word (state_view on_true) false_word (state_view on_false)

abbrev pub identifier_view : Identifier → ℕ × ℕ
identifier_view i = (i.word, i.name)

abbrev pub identifiers_view : Bor (List Identifier) → List (ℕ × ℕ)
identifiers_view is = map identifier_view is.now

abbrev pub action_view : WrittenAction → text.WrittenAction
action_view a = record { word = a.word; literals = literals_row a.literals; arguments = identifiers_view a.arguments; semicolon = a.semicolon }

abbrev pub maybe_action_view : Option WrittenAction → Option text.WrittenAction
maybe_action_view a = option_map action_view a

abbrev pub rule_view : WrittenRule → text.WrittenRule
rule_view r = record { alternatives = alternatives_row r.alternatives; destination = destination_view r.destination; action = maybe_action_view r.action }

abbrev pub no_rule : text.WrittenRule
no_rule = record { alternatives = text.lone (text.lone no_item); destination = text.To (text.OfMachine 0); action = None }

abbrev pub rules_row : Bor (List WrittenRule) → text.Row text.WrittenRule
rules_row rs = row_from no_rule (map rule_view rs.now)

abbrev pub section_view : Section → text.Section
section_view s = record { source = state_view s.source; rules = rules_row s.rules }

abbrev pub content_view : Content → text.Content
content_view contents.Nothing = text.Nothing
content_view (contents.Declares d) = text.Declares (declaration_view d)
content_view (contents.Rules s) = text.Rules (section_view s)

abbrev pub head_view : Head → ℕ × ℕ
head_view h = (h.word, h.name)

abbrev pub maybe_head_view : Option Head → Option (ℕ × ℕ)
maybe_head_view h = option_map head_view h

abbrev pub clause_view : Clause → text.Clause
clause_view c = record { head = maybe_head_view c.head; content = content_view c.content; closing = c.closing }

abbrev pub clause_views : List Clause → List text.Clause
clause_views cs = map clause_view cs
