-- Each item, action, rule and section is read, where what follows doesn't go on with it.
use Rattle.std.proofs.Common.{◌≡◌, ℕ, zero, suc, ◌≤◌, ◌<◌, Bool, true, false, ◌&&◌, List, [], ◌∷◌, length, Option, None, Some, refl, arith}
use Rattle.c_tree.specs.declared.punctuator.Punctuator.TheVariants as marks
use Rattle.c_tree.specs.Symbol.{Symbol, Word, Sign, IntLiteral}
use Rattle.c_tree.specs.Syntax.{Syntax}
use Rattle.c_tree.specs.Phrase.{phrase_then, sign}
use Rattle.c_tree.specs.Tokens.{tokens_then}
use Rattle.c_grammar.specs.Symbols.{after_sign}
use Rattle.c_grammar.specs.Levels.{comma_level}
use Rattle.c_grammar.specs.Nonterminal.{Expression}
use Rattle.c_grammar.specs.Following.{Ends}
use Rattle.c_grammar.proofs.Options.{both}
use Rattle.c_grammar.proofs.Complete.{read-complete}
use Rattle.metal_grammar.specs.Words.{Spelling, Literal}
use Rattle.metal_grammar.specs.Written.{Row, lone, row, OfMachine, OfVariable, WrittenCallout, Digit, Asked, WrittenItem, Pattern, Callout, Dollars, Destination, To, Split, WrittenAction, Alternative, WrittenRule, Section}
use Rattle.metal_grammar.specs.Phrases.{row_phrase, each_phrase, maybe_phrase, sign_if, state_phrase, callout_phrase, literals_phrase, item_phrase, alternative_phrase, destination_phrase, identifier_phrase, action_phrase, rule_phrase, section_phrase}
use Rattle.metal_grammar.specs.Holes.{DeclaredHole}
use Rattle.metal_grammar.specs.Grammar.{each, EachIs, IsItem, IsAlternative, IsRule, is_item, is_callout, is_alternative, is_destination, is_action, is_rule}
use Rattle.metal_grammar.specs.Ways.Steps.{has_sign, behind_sign, read_pattern, read_item, read_alternative, read_destination, read_literals, read_identifiers, read_maybe_action, read_rule, read_section}
use Rattle.metal_grammar.proofs.CompleteParts.{Knows, each_both, row_longer, row-complete, state-complete, callout-complete}

-- a `;` before a closing brace, where it is there
has_semicolon : (b : Bool) (r : List Symbol) → has_sign marks.Semicolon (phrase_then (sign_if b (sign marks.Semicolon)) (Sign marks.CloseBrace ∷ r)) ≡ b
has_semicolon true r = refl
has_semicolon false r = refl

behind_semicolon : (b : Bool) (r : List Symbol) → behind_sign marks.Semicolon (phrase_then (sign_if b (sign marks.Semicolon)) (Sign marks.CloseBrace ∷ r)) ≡ Sign marks.CloseBrace ∷ r
behind_semicolon true r = refl
behind_semicolon false r = refl

ends_pattern : (b : Bool) (r : List Symbol) → Ends (Expression comma_level) [] (phrase_then (sign_if b (sign marks.Semicolon)) (Sign marks.CloseBrace ∷ r))
ends_pattern true r = omega arith
ends_pattern false r = omega arith

pattern-complete : (e : Syntax) (b : Bool) (r : List Symbol) → IsItem (Pattern e b) → read_pattern (tokens_then e (phrase_then (sign_if b (sign marks.Semicolon)) (Sign marks.CloseBrace ∷ r))) ≡ Some (Pattern e b, r)
pattern-complete e b r w =
    let Y = phrase_then (sign_if b (sign marks.Semicolon)) (Sign marks.CloseBrace ∷ r) in
    rw (read-complete 1000 (Expression comma_level) [] e Y w.0 w.1 (ends_pattern b r), has_semicolon b r, behind_semicolon b r) refl

-- a callout doesn't begin with `!`
no_negation : (spelling : Spelling) (c : WrittenCallout) (r : List Symbol) → is_callout spelling c ≡ true → has_sign marks.Exclamation (phrase_then (callout_phrase c) r) ≡ false
no_negation spelling (Digit (IntLiteral value name)) r h = refl
no_negation spelling (Digit _) r h = cc
no_negation spelling (Asked name argument text) r h = refl

behind_no_negation : (spelling : Spelling) (c : WrittenCallout) (r : List Symbol) → is_callout spelling c ≡ true → behind_sign marks.Exclamation (phrase_then (callout_phrase c) r) ≡ phrase_then (callout_phrase c) r
behind_no_negation spelling (Digit (IntLiteral value name)) r h = refl
behind_no_negation spelling (Digit _) r h = cc
behind_no_negation spelling (Asked name argument text) r h = refl

abbrev pub ItemIs : Spelling → List DeclaredHole → WrittenItem → Type 0
ItemIs spelling holes i = IsItem i × (is_item spelling holes i ≡ true)

item-complete : (spelling : Spelling) (holes : List DeclaredHole) → Knows read_item item_phrase (ItemIs spelling holes) (λ r. Unit {0})
item-complete spelling holes (Pattern e b) r w u = pattern-complete e b r w.0
item-complete spelling holes (Callout true c) r w u = rw (callout-complete spelling c (Sign marks.CloseBrace ∷ r) w.1) refl
item-complete spelling holes (Callout false c) r w u =
    let Y = Sign marks.CloseBrace ∷ r in
    rw (no_negation spelling c Y w.1, behind_no_negation spelling c Y w.1, callout-complete spelling c Y w.1) refl
item-complete spelling holes (Dollars name) r w u = refl

abbrev pub AlternativeIs : Spelling → List DeclaredHole → Alternative → Type 0
AlternativeIs spelling holes a = IsAlternative a × (is_alternative spelling holes a ≡ true)

alternative-complete : (spelling : Spelling) (holes : List DeclaredHole) → Knows read_alternative alternative_phrase (AlternativeIs spelling holes) (λ r. after_sign marks.AndAnd r ≡ None)
alternative-complete spelling holes x r w e =
    let b = both (each (is_item spelling holes) x) _ w.1 in
    row-complete read_item item_phrase (ItemIs spelling holes) (λ r. Unit {0}) marks.AndAnd (suc (length (phrase_then (alternative_phrase x) r))) x r
    (item-complete spelling holes) (λ ts. tt) (each_both IsItem (is_item spelling holes) x w.0 b.0) tt e (row_longer item_phrase marks.AndAnd x r)

destination-complete : (d : Destination) (r : List Symbol) → after_sign marks.Dot r ≡ None → after_sign marks.Assign r ≡ None → read_destination (phrase_then (destination_phrase d) r) ≡ Some (d, r)
destination-complete (To (OfMachine state)) r d a = rw (a, d) refl
destination-complete (To (OfVariable variable state)) r d a = refl
destination-complete (Split true_word on_true false_word on_false) r d a =
    rw (state-complete on_true (Sign marks.Comma ∷ Word false_word ∷ Sign marks.Assign ∷ phrase_then (state_phrase on_false) r) refl, state-complete on_false r d) refl

literals-complete : (ls : Row Literal) (r : List Symbol) → read_literals r ≡ None → read_literals (phrase_then (literals_phrase ls) r) ≡ Some (ls, r)
literals-complete (lone l) r h = rw (h) refl
literals-complete (row l ls) r h = rw (literals-complete ls r h) refl

identifiers_longer : (xs : List (ℕ × ℕ)) (r : List Symbol) → length xs ≤ length (phrase_then (each_phrase identifier_phrase xs) r)
identifiers_longer [] r = omega arith
identifiers_longer (x ∷ xs) r = let a = identifiers_longer xs r in omega arith

identifiers-complete : (f : ℕ) (xs : List (ℕ × ℕ)) (r : List Symbol) → length xs < f → read_identifiers f (phrase_then (each_phrase identifier_phrase xs) (Sign marks.CloseParen ∷ r)) ≡ Some (xs, Sign marks.CloseParen ∷ r)
unfolding read_identifiers
identifiers-complete zero xs r h = absurd (omega arith)
identifiers-complete (suc f) [] r h = refl
identifiers-complete (suc f) (x ∷ xs) r h = rw (identifiers-complete f xs r (omega arith)) refl

no_literals : (xs : List (ℕ × ℕ)) (r : List Symbol) → read_literals (phrase_then (each_phrase identifier_phrase xs) (Sign marks.CloseParen ∷ r)) ≡ None
no_literals [] r = refl
no_literals (x ∷ xs) r = refl

action-complete : (a : WrittenAction) (r : List Symbol) → read_maybe_action (phrase_then (action_phrase a) r) ≡ Some (Some a, r)
action-complete a r =
    let end = phrase_then (sign_if a.semicolon (sign marks.Semicolon)) (Sign marks.CloseBrace ∷ r) in
    let Y = phrase_then (each_phrase identifier_phrase a.arguments) (Sign marks.CloseParen ∷ end) in
    let c = identifiers_longer a.arguments (Sign marks.CloseParen ∷ end) in
    rw (
      literals-complete a.literals Y (no_literals a.arguments end),
      identifiers-complete (suc (length Y)) a.arguments end (omega (arith, c)),
      has_semicolon a.semicolon r,
      behind_semicolon a.semicolon r,
    ) refl

-- a rule goes on with neither of these
pub record EndsRule (r : List Symbol) : Type 0 where
  pub dot : after_sign marks.Dot r ≡ None
  pub equals : after_sign marks.Assign r ≡ None
  pub comma : after_sign marks.Comma r ≡ None

maybe_action-complete : (a : Option WrittenAction) (r : List Symbol) → after_sign marks.Comma r ≡ None → read_maybe_action (phrase_then (maybe_phrase action_phrase a) r) ≡ Some (a, r)
maybe_action-complete None r h = rw (h) refl
maybe_action-complete (Some a) r h = action-complete a r

no_dot : (a : Option WrittenAction) (r : List Symbol) → after_sign marks.Dot r ≡ None → after_sign marks.Dot (phrase_then (maybe_phrase action_phrase a) r) ≡ None
no_dot None r h = h
no_dot (Some a) r h = refl

no_equals : (a : Option WrittenAction) (r : List Symbol) → after_sign marks.Assign r ≡ None → after_sign marks.Assign (phrase_then (maybe_phrase action_phrase a) r) ≡ None
no_equals None r h = h
no_equals (Some a) r h = refl

abbrev pub RuleIs : Spelling → List DeclaredHole → WrittenRule → Type 0
RuleIs spelling holes x = IsRule x × (is_rule spelling holes x ≡ true)

rule-complete : (spelling : Spelling) (holes : List DeclaredHole) → Knows read_rule rule_phrase (RuleIs spelling holes) EndsRule
rule-complete spelling holes x r w e =
    let b = both (each (is_alternative spelling holes) x.alternatives && is_destination spelling x.destination) (is_action spelling x.action) w.1 in
    let c = both (each (is_alternative spelling holes) x.alternatives) (is_destination spelling x.destination) b.0 in
    let Z = phrase_then (maybe_phrase action_phrase x.action) r in
    let Y = Sign marks.LongArrow ∷ phrase_then (destination_phrase x.destination) Z in
    rw (
      row-complete read_alternative alternative_phrase (AlternativeIs spelling holes) (λ r. after_sign marks.AndAnd r ≡ None) marks.OrOr (suc (length (phrase_then (rule_phrase x) r))) x.alternatives Y
          (alternative-complete spelling holes) (λ ts. refl) (each_both IsAlternative (is_alternative spelling holes) x.alternatives w.0 c.0) refl refl (row_longer alternative_phrase marks.OrOr x.alternatives Y),
      destination-complete x.destination Z (no_dot x.action r e.dot) (no_equals x.action r e.equals),
      maybe_action-complete x.action r e.comma,
    ) refl

pub section-complete : (spelling : Spelling) (holes : List DeclaredHole) (s : Section) (r : List Symbol) → EachIs IsRule s.rules → each (is_rule spelling holes) s.rules ≡ true
    → read_section (phrase_then (section_phrase s) r) ≡ Some (s, r)
section-complete spelling holes s r w h =
    let Z = Sign marks.Semicolon ∷ r in
    let Y = phrase_then (row_phrase (sign marks.Bar) rule_phrase s.rules) Z in
    rw (
      state-complete s.source (Sign marks.Colon ∷ Y) refl,
      row-complete read_rule rule_phrase (RuleIs spelling holes) EndsRule marks.Bar (suc (length Y)) s.rules Z
          (rule-complete spelling holes) (λ ts. record { dot = refl; equals = refl; comma = refl }) (each_both IsRule (is_rule spelling holes) s.rules w h) (record { dot = refl; equals = refl; comma = refl }) refl
          (row_longer rule_phrase marks.Bar s.rules Z),
    ) refl
