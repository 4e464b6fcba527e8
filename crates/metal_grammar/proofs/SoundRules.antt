-- What is read as an item, an action, a rule or a section is one.
use Rattle.std.proofs.Common.{◌≡◌, ℕ, zero, suc, List, [], ◌∷◌, length, Option, None, Some, inl, inr, ap, refl, ◌∙◌}
use Rattle.c_tree.specs.declared.punctuator.Punctuator.TheVariants as marks
use Rattle.c_tree.specs.Symbol.{Symbol, Word, Sign, StringLiteral}
use Rattle.c_tree.specs.Phrase.{phrase_then, sign}
use Rattle.c_tree.specs.Tokens.{tokens_then}
use Rattle.c_grammar.specs.Symbols.{after_sign}
use Rattle.c_grammar.specs.Levels.{comma_level}
use Rattle.c_grammar.specs.Nonterminal.{Expression}
use Rattle.c_grammar.specs.Reading.{read}
use Rattle.c_grammar.proofs.Options.{bound, chosen}
use Rattle.c_grammar.proofs.Front.{taken}
use Rattle.c_grammar.proofs.Sound.{read-sound}
use Rattle.metal_grammar.specs.Words.{Literal}
use Rattle.metal_grammar.specs.Written.{Row, lone, row, WrittenItem, Pattern, Callout, Dollars, Destination, To, Split, WrittenAction, WrittenRule, Section}
use Rattle.metal_grammar.specs.Phrases.{row_phrase, each_phrase, maybe_phrase, sign_if, state_phrase, callout_phrase, literals_phrase, item_phrase, alternative_phrase, destination_phrase, identifier_phrase, action_phrase, rule_phrase, section_phrase}
use Rattle.metal_grammar.specs.Grammar.{IsItem, IsAlternative, IsRule, EachIs}
use Rattle.metal_grammar.specs.Ways.Steps.{take_word, has_sign, behind_sign, read_row, read_state, read_callout, read_pattern, read_asked, read_dollars, read_item, read_alternative, read_split, read_destination, more_literals, read_literals, read_identifier, read_identifiers, read_action, read_maybe_action, read_rule, read_section}
use Rattle.metal_grammar.proofs.Carried.{IsSound, Stands, carried, taken_word, sign_split}
use Rattle.metal_grammar.proofs.SoundParts.{row-sound, state-sound, callout-sound}

pattern-sound : (ts : List Symbol) (i : WrittenItem) (r : List Symbol) → read_pattern ts ≡ Some (i, r) → Stands item_phrase IsItem (Sign marks.OpenBrace ∷ ts) i r
pattern-sound ts i r h =
    let a = bound (read 1000 (Expression comma_level) [] ts) _ _ h in
    let s = read-sound 1000 (Expression comma_level) [] ts a.0.0 a.0.1 a.1 in
    let b = bound (after_sign marks.CloseBrace (behind_sign marks.Semicolon a.0.1)) _ _ a.2 in
    let semicolon = has_sign marks.Semicolon a.0.1 in
    let end : a.0.1 ≡ phrase_then (sign_if semicolon (sign marks.Semicolon)) (Sign marks.CloseBrace ∷ b.0) =
    sign_split marks.Semicolon a.0.1 ∙ ap (λ x. phrase_then (sign_if semicolon (sign marks.Semicolon)) x) (taken marks.CloseBrace (behind_sign marks.Semicolon a.0.1) b.0 b.1) in
    carried (Stands item_phrase IsItem (Sign marks.OpenBrace ∷ ts)) (Pattern a.0.0 semicolon) i b.0 r b.2
    (ap (λ x. Sign marks.OpenBrace ∷ x) (s.tokens ∙ ap (tokens_then a.0.0) end), (s.well, s.height))

asked-sound : (ts : List Symbol) (i : WrittenItem) (r : List Symbol) → read_asked ts ≡ Some (i, r) → Stands item_phrase IsItem (Sign marks.Dollar ∷ Sign marks.OpenBrace ∷ ts) i r
asked-sound ts i r h =
    let negated = has_sign marks.Exclamation ts in
    let a = bound (read_callout (behind_sign marks.Exclamation ts)) _ _ h in
    let b = bound (after_sign marks.CloseBrace a.0.1) _ _ a.2 in
    let end : behind_sign marks.Exclamation ts ≡ phrase_then (callout_phrase a.0.0) (Sign marks.CloseBrace ∷ b.0) =
    callout-sound (behind_sign marks.Exclamation ts) a.0.0 a.0.1 a.1 ∙ ap (λ x. phrase_then (callout_phrase a.0.0) x) (taken marks.CloseBrace a.0.1 b.0 b.1) in
    carried (Stands item_phrase IsItem (Sign marks.Dollar ∷ Sign marks.OpenBrace ∷ ts)) (Callout negated a.0.0) i b.0 r b.2
    (ap (λ x. Sign marks.Dollar ∷ Sign marks.OpenBrace ∷ x) (sign_split marks.Exclamation ts ∙ ap (λ x. phrase_then (sign_if negated (sign marks.Exclamation)) x) end), tt)

dollars-sound : (ts : List Symbol) (i : WrittenItem) (r : List Symbol) → read_dollars ts ≡ Some (i, r) → Stands item_phrase IsItem (Sign marks.Dollar ∷ ts) i r
dollars-sound ts i r h =
    let a = bound (take_word ts) _ _ h in
    let b = bound (after_sign marks.Dollar a.0.1) _ _ a.2 in
    carried (Stands item_phrase IsItem (Sign marks.Dollar ∷ ts)) (Dollars a.0.0) i b.0 r b.2
    (ap (λ x. Sign marks.Dollar ∷ x) (taken_word ts a.0.0 a.0.1 a.1 ∙ ap (λ x. Word a.0.0 ∷ x) (taken marks.Dollar a.0.1 b.0 b.1)), tt)

item-sound : IsSound read_item item_phrase IsItem
item-sound ts i r h =
    elim (chosen (after_sign marks.OpenBrace ts) _ _ _ h) as (λ _. Stands item_phrase IsItem ts i r) [
      | inr o ↦ let s = pattern-sound o.0 i r o.2 in (taken marks.OpenBrace ts o.0 o.1 ∙ s.0, s.1)
      | inl o ↦
          let a = bound (after_sign marks.Dollar ts) _ _ o.1 in
          let dollar = taken marks.Dollar ts a.0 a.1 in
          elim (chosen (after_sign marks.OpenBrace a.0) _ _ _ a.2) as (λ _. Stands item_phrase IsItem ts i r) [
            | inl p ↦ let s = dollars-sound a.0 i r p.1 in (dollar ∙ s.0, s.1)
            | inr p ↦ let s = asked-sound p.0 i r p.2 in (dollar ∙ ap (λ x. Sign marks.Dollar ∷ x) (taken marks.OpenBrace a.0 p.0 p.1) ∙ s.0, s.1)
          ]
    ]

alternative-sound : IsSound read_alternative alternative_phrase IsAlternative
alternative-sound ts x r h = row-sound read_item item_phrase IsItem marks.AndAnd (suc (length ts)) ts x r item-sound h

split-sound : (true_word : ℕ) (ts : List Symbol) (d : Destination) (r : List Symbol) → read_split true_word ts ≡ Some (d, r) → Word true_word ∷ Sign marks.Assign ∷ ts ≡ phrase_then (destination_phrase d) r
split-sound true_word ts d r h =
    let a = bound (read_state ts) _ _ h in
    let b = bound (after_sign marks.Comma a.0.1) _ _ a.2 in
    let w = bound (take_word b.0) _ _ b.2 in
    let e = bound (after_sign marks.Assign w.0.1) _ _ w.2 in
    let z = bound (read_state e.0) _ _ e.2 in
    let last : w.0.1 ≡ Sign marks.Assign ∷ phrase_then (state_phrase z.0.0) z.0.1 = taken marks.Assign w.0.1 e.0 e.1 ∙ ap (λ x. Sign marks.Assign ∷ x) (state-sound e.0 z.0.0 z.0.1 z.1) in
    let second : a.0.1 ≡ Sign marks.Comma ∷ Word w.0.0 ∷ Sign marks.Assign ∷ phrase_then (state_phrase z.0.0) z.0.1 =
    taken marks.Comma a.0.1 b.0 b.1 ∙ ap (λ x. Sign marks.Comma ∷ x) (taken_word b.0 w.0.0 w.0.1 w.1 ∙ ap (λ x. Word w.0.0 ∷ x) last) in
    carried (λ x y. Word true_word ∷ Sign marks.Assign ∷ ts ≡ phrase_then (destination_phrase x) y) (Split true_word a.0.0 w.0.0 z.0.0) d z.0.1 r z.2
    (ap (λ x. Word true_word ∷ Sign marks.Assign ∷ x) (state-sound ts a.0.0 a.0.1 a.1 ∙ ap (λ x. phrase_then (state_phrase a.0.0) x) second))

destination-sound : (ts : List Symbol) (d : Destination) (r : List Symbol) → read_destination ts ≡ Some (d, r) → ts ≡ phrase_then (destination_phrase d) r
destination-sound ts d r h =
    let w = bound (take_word ts) _ _ h in
    elim (chosen (after_sign marks.Assign w.0.1) _ _ _ w.2) as (λ _. ts ≡ phrase_then (destination_phrase d) r) [
      | inl o ↦
          let a = bound (read_state ts) _ _ o.1 in
          carried (λ x y. ts ≡ phrase_then (destination_phrase x) y) (To a.0.0) d a.0.1 r a.2 (state-sound ts a.0.0 a.0.1 a.1)
      | inr o ↦ taken_word ts w.0.0 w.0.1 w.1 ∙ ap (λ x. Word w.0.0 ∷ x) (taken marks.Assign w.0.1 o.0 o.1) ∙ split-sound w.0.0 o.0 d r o.2
    ]

literals_step : (l : Literal) (ts : List Symbol) (others : Option (Row Literal × List Symbol)) (ls : Row Literal) (r : List Symbol)
    → ((xs : Row Literal) (y : List Symbol) → others ≡ Some (xs, y) → ts ≡ phrase_then (literals_phrase xs) y) → ◌≡◌ {A = Option (Row Literal × List Symbol)} (Some (more_literals l ts others)) (Some (ls, r))
    → StringLiteral l.wide l.name ∷ ts ≡ phrase_then (literals_phrase ls) r
literals_step l ts None ls r s h = carried (λ x y. StringLiteral l.wide l.name ∷ ts ≡ phrase_then (literals_phrase x) y) (lone l) ls ts r h refl
literals_step l ts (Some (xs, y)) ls r s h =
    carried (λ a b. StringLiteral l.wide l.name ∷ ts ≡ phrase_then (literals_phrase a) b) (row l xs) ls y r h (ap (λ a. StringLiteral l.wide l.name ∷ a) (s xs y refl))

literals-sound : (ts : List Symbol) (ls : Row Literal) (r : List Symbol) → read_literals ts ≡ Some (ls, r) → ts ≡ phrase_then (literals_phrase ls) r
literals-sound [] ls r h = cc
literals-sound (StringLiteral wide name ∷ ts) ls r h = literals_step (record { wide = wide; name = name }) ts (read_literals ts) ls r (λ xs y e. literals-sound ts xs y e) h
literals-sound (_ ∷ ts) ls r h = cc

identifier-sound : (ts : List Symbol) (a : ℕ × ℕ) (r : List Symbol) → read_identifier ts ≡ Some (a, r) → Sign marks.Comma ∷ ts ≡ phrase_then (identifier_phrase a) r
identifier-sound ts a r h =
    let w = bound (take_word ts) _ _ h in
    let o = bound (after_sign marks.OpenParen w.0.1) _ _ w.2 in
    let n = bound (take_word o.0) _ _ o.2 in
    let e = bound (after_sign marks.CloseParen n.0.1) _ _ n.2 in
    let inside : w.0.1 ≡ Sign marks.OpenParen ∷ Word n.0.0 ∷ Sign marks.CloseParen ∷ e.0 =
    taken marks.OpenParen w.0.1 o.0 o.1 ∙ ap (λ x. Sign marks.OpenParen ∷ x) (taken_word o.0 n.0.0 n.0.1 n.1 ∙ ap (λ x. Word n.0.0 ∷ x) (taken marks.CloseParen n.0.1 e.0 e.1)) in
    carried (λ x y. Sign marks.Comma ∷ ts ≡ phrase_then (identifier_phrase x) y) (w.0.0, n.0.0) a e.0 r e.2
    (ap (λ x. Sign marks.Comma ∷ x) (taken_word ts w.0.0 w.0.1 w.1 ∙ ap (λ x. Word w.0.0 ∷ x) inside))

identifiers-sound : (f : ℕ) (ts : List Symbol) (xs : List (ℕ × ℕ)) (r : List Symbol) → read_identifiers f ts ≡ Some (xs, r) → ts ≡ phrase_then (each_phrase identifier_phrase xs) r
unfolding read_identifiers
identifiers-sound zero ts xs r h = cc
identifiers-sound (suc f) ts xs r h =
    elim (chosen (after_sign marks.Comma ts) _ _ _ h) as (λ _. ts ≡ phrase_then (each_phrase identifier_phrase xs) r) [
      | inl o ↦ carried (λ x y. ts ≡ phrase_then (each_phrase identifier_phrase x) y) [] xs ts r o.1 refl
      | inr o ↦
          let a = bound (read_identifier o.0) _ _ o.2 in
          let b = bound (read_identifiers f a.0.1) _ _ a.2 in
          carried (λ x y. ts ≡ phrase_then (each_phrase identifier_phrase x) y) (a.0.0 ∷ b.0.0) xs b.0.1 r b.2
          (taken marks.Comma ts o.0 o.1 ∙ identifier-sound o.0 a.0.0 a.0.1 a.1 ∙ ap (λ x. phrase_then (identifier_phrase a.0.0) x) (identifiers-sound f a.0.1 b.0.0 b.0.1 b.1))
    ]

action-sound : (ts : List Symbol) (a : WrittenAction) (r : List Symbol) → read_action ts ≡ Some (a, r) → Sign marks.Comma ∷ ts ≡ phrase_then (action_phrase a) r
action-sound ts a r h =
    let b = bound (after_sign marks.OpenBrace ts) _ _ h in
    let w = bound (take_word b.0) _ _ b.2 in
    let o = bound (after_sign marks.OpenParen w.0.1) _ _ w.2 in
    let l = bound (read_literals o.0) _ _ o.2 in
    let i = bound (read_identifiers (suc (length l.0.1)) l.0.1) _ _ l.2 in
    let e = bound (after_sign marks.CloseParen i.0.1) _ _ i.2 in
    let z = bound (after_sign marks.CloseBrace (behind_sign marks.Semicolon e.0)) _ _ e.2 in
    let semicolon = has_sign marks.Semicolon e.0 in
    let made : WrittenAction = record { word = w.0.0; literals = l.0.0; arguments = i.0.0; semicolon = semicolon } in
    let end : e.0 ≡ phrase_then (sign_if semicolon (sign marks.Semicolon)) (Sign marks.CloseBrace ∷ z.0) =
    sign_split marks.Semicolon e.0 ∙ ap (λ x. phrase_then (sign_if semicolon (sign marks.Semicolon)) x) (taken marks.CloseBrace (behind_sign marks.Semicolon e.0) z.0 z.1) in
    let arguments : l.0.1 ≡ phrase_then (each_phrase identifier_phrase i.0.0) (Sign marks.CloseParen ∷ phrase_then (sign_if semicolon (sign marks.Semicolon)) (Sign marks.CloseBrace ∷ z.0)) =
    identifiers-sound (suc (length l.0.1)) l.0.1 i.0.0 i.0.1 i.1 ∙ ap (λ x. phrase_then (each_phrase identifier_phrase i.0.0) x) (taken marks.CloseParen i.0.1 e.0 e.1 ∙ ap (λ x. Sign marks.CloseParen ∷ x) end) in
    let list = literals-sound o.0 l.0.0 l.0.1 l.1 ∙ ap (λ x. phrase_then (literals_phrase l.0.0) x) arguments in
    carried (λ x y. Sign marks.Comma ∷ ts ≡ phrase_then (action_phrase x) y) made a z.0 r z.2
    (ap (λ x. Sign marks.Comma ∷ x) (taken marks.OpenBrace ts b.0 b.1)
    ∙ ap (λ x. Sign marks.Comma ∷ Sign marks.OpenBrace ∷ x) (taken_word b.0 w.0.0 w.0.1 w.1)
    ∙ ap (λ x. Sign marks.Comma ∷ Sign marks.OpenBrace ∷ Word w.0.0 ∷ x) (taken marks.OpenParen w.0.1 o.0 o.1 ∙ ap (λ x. Sign marks.OpenParen ∷ x) list))

maybe_action-sound : (ts : List Symbol) (a : Option WrittenAction) (r : List Symbol) → read_maybe_action ts ≡ Some (a, r) → ts ≡ phrase_then (maybe_phrase action_phrase a) r
maybe_action-sound ts a r h =
    elim (chosen (after_sign marks.Comma ts) _ _ _ h) as (λ _. ts ≡ phrase_then (maybe_phrase action_phrase a) r) [
      | inl o ↦ carried (λ x y. ts ≡ phrase_then (maybe_phrase action_phrase x) y) None a ts r o.1 refl
      | inr o ↦
          let b = bound (read_action o.0) _ _ o.2 in
          carried (λ x y. ts ≡ phrase_then (maybe_phrase action_phrase x) y) (Some b.0.0) a b.0.1 r b.2
          (taken marks.Comma ts o.0 o.1 ∙ action-sound o.0 b.0.0 b.0.1 b.1)
    ]

pub rule-sound : IsSound read_rule rule_phrase IsRule
rule-sound ts x r h =
    let a = bound (read_row read_alternative marks.OrOr (suc (length ts)) ts) _ _ h in
    let s = row-sound read_alternative alternative_phrase IsAlternative marks.OrOr (suc (length ts)) ts a.0.0 a.0.1 alternative-sound a.1 in
    let t = bound (after_sign marks.LongArrow a.0.1) _ _ a.2 in
    let d = bound (read_destination t.0) _ _ t.2 in
    let m = bound (read_maybe_action d.0.1) _ _ d.2 in
    let made : WrittenRule = record { alternatives = a.0.0; destination = d.0.0; action = m.0.0 } in
    let end : t.0 ≡ phrase_then (destination_phrase d.0.0) (phrase_then (maybe_phrase action_phrase m.0.0) m.0.1) =
    destination-sound t.0 d.0.0 d.0.1 d.1 ∙ ap (λ x. phrase_then (destination_phrase d.0.0) x) (maybe_action-sound d.0.1 m.0.0 m.0.1 m.1) in
    carried (Stands rule_phrase IsRule ts) made x m.0.1 r m.2
    (s.0 ∙ ap (λ x. phrase_then (row_phrase (sign marks.OrOr) alternative_phrase a.0.0) x) (taken marks.LongArrow a.0.1 t.0 t.1 ∙ ap (λ x. Sign marks.LongArrow ∷ x) end), s.1)

pub section-sound : IsSound read_section section_phrase (λ s. EachIs IsRule s.rules)
section-sound ts x r h =
    let a = bound (read_state ts) _ _ h in
    let c = bound (after_sign marks.Colon a.0.1) _ _ a.2 in
    let b = bound (read_row read_rule marks.Bar (suc (length c.0)) c.0) _ _ c.2 in
    let s = row-sound read_rule rule_phrase IsRule marks.Bar (suc (length c.0)) c.0 b.0.0 b.0.1 rule-sound b.1 in
    let e = bound (after_sign marks.Semicolon b.0.1) _ _ b.2 in
    let made : Section = record { source = a.0.0; rules = b.0.0 } in
    let end : c.0 ≡ phrase_then (row_phrase (sign marks.Bar) rule_phrase b.0.0) (Sign marks.Semicolon ∷ e.0) =
    s.0 ∙ ap (λ x. phrase_then (row_phrase (sign marks.Bar) rule_phrase b.0.0) x) (taken marks.Semicolon b.0.1 e.0 e.1) in
    carried (Stands section_phrase (λ s. EachIs IsRule s.rules) ts) made x e.0 r e.2
    (state-sound ts a.0.0 a.0.1 a.1 ∙ ap (λ x. phrase_then (state_phrase a.0.0) x) (taken marks.Colon a.0.1 c.0 c.1 ∙ ap (λ x. Sign marks.Colon ∷ x) end), s.1)
