-- The positions of the rules of a text are those that are found in its symbols.
use Rattle.std.proofs.Common.{◌≡◌, ℕ, ◌+◌, Bool, true, false, cond, is_some, List, [], ◌∷◌, ◌++◌, length, map, Option, None, Some, ap, refl, ◌∙◌, sym, arith}
use Rattle.c_tree.specs.declared.punctuator.Punctuator.TheVariants as marks
use Rattle.c_tree.specs.Symbol.{Symbol, Sign}
use Rattle.c_tree.specs.Phrase.{Phrase, ◌⨾◌, phrase_then, sign}
use Rattle.metal_grammar.specs.Words.{Spelling}
use Rattle.metal_grammar.specs.Written.{Row, lone, row, StateName, WrittenRule, Content, Nothing, Declares, Rules, Clause}
use Rattle.metal_grammar.specs.Phrases.{row_phrase, maybe_phrase, sign_if, state_phrase, rule_phrase, content_phrase, head_phrase, clause_tokens}
use Rattle.metal_grammar.specs.Holes.{DeclaredHole}
use Rattle.metal_grammar.specs.Rules.{size, behind_head, behind_clause, PlacedRule, rules_from, rules_of_content, count_of_rules, placed_rules, rules_of}
use Rattle.metal_grammar.specs.Grammar.{Before, nothing_before, behind_content, EachIs, IsRule, IsContent, is_rule, is_content, IsClause, IsText, text_tokens, AreWellFormed}
use Rattle.metal_grammar.proofs.CompleteParts.{each_both}
use Rattle.metal_grammar.proofs.CompleteRules.{RuleIs}
use Rattle.metal_grammar.proofs.Whole.{texts_are_their_tokens}
use Rattle.metal_written.proofs.InSizes.{size-two}
use Rattle.metal_reader.specs.MetalPositions.Positions.{beginnings}
use Rattle.metal_reader.proofs.MetalPositions.Skipping.{nothing_skips, calm, state_calm, type_calm, names_calm, maybe_word_calm, rule_skips}

abbrev positions : List PlacedRule → List ℕ
positions rs = map (λ r. r.position) rs

-- the positions of the rules behind the first, which begins there
abbrev later : ℕ → Row WrittenRule → List ℕ
later q (lone x) = []
later q (row x xs) = (q + size (rule_phrase x) + 1) ∷ later (q + size (rule_phrase x) + 1) xs

from_positions : (n q : ℕ) (source : StateName) (rs : Row WrittenRule) → positions (rules_from n q source rs) ≡ q ∷ later q rs
from_positions n q source (lone x) = refl
from_positions n q source (row x xs) = ap (λ ps. q ∷ ps) (from_positions (n + 1) (q + size (rule_phrase x) + 1) source xs)

abbrev rows : Row WrittenRule → Phrase
rows rs = row_phrase (sign marks.Bar) rule_phrase rs

rows_begin : (spelling : Spelling) (holes : List DeclaredHole) (rs : Row WrittenRule) → EachIs (RuleIs spelling holes) rs → (q : ℕ) (r : List Symbol)
    → beginnings 1 q (phrase_then (rows rs) r) ≡ later q rs ++ beginnings 1 (q + size (rows rs)) r
rows_begin spelling holes (lone x) w q r = rule_skips spelling holes x w q r
rows_begin spelling holes (row x xs) w q r =
    let p = q + size (rule_phrase x) + 1 in
    let s = size-two (rule_phrase x ⨾ sign marks.Bar) (rows xs) in
    let t = size-two (rule_phrase x) (sign marks.Bar) in
    let u : size (sign marks.Bar) ≡ 1 = refl in
    let e : q + size (rule_phrase x) + 1 + size (rows xs) ≡ q + size (rule_phrase x ⨾ sign marks.Bar ⨾ rows xs) = omega (arith, s, t, u) in
    rule_skips spelling holes x w.0 q (Sign marks.Bar ∷ phrase_then (rows xs) r)
    ∙ ap (λ ps. p ∷ ps) (rows_begin spelling holes xs w.1 p r ∙ ap (λ k. later p xs ++ beginnings 1 k r) e)

content_begins : (spelling : Spelling) (before : Before) (c : Content) → is_content spelling before c ≡ true → IsContent c → (n q : ℕ) (r : List Symbol)
    → beginnings 1 q (phrase_then (content_phrase c) r) ≡ positions (rules_of_content n q c) ++ beginnings 1 (q + size (content_phrase c)) r
content_begins spelling before Nothing h w n q r = nothing_skips 1 q r
content_begins spelling before (Declares d) h w n q r =
    calm (content_phrase (Declares d)) ((((maybe_word_calm d.state, refl), type_calm d.type), names_calm d.names), refl) q r
content_begins spelling before (Rules s) h w n q r =
    let source = state_phrase s.source in
    let p = q + size source + 1 in
    let a = size-two (source ⨾ sign marks.Colon ⨾ rows s.rules) (sign marks.Semicolon) in
    let b = size-two (source ⨾ sign marks.Colon) (rows s.rules) in
    let c = size-two source (sign marks.Colon) in
    let u : size (sign marks.Colon) ≡ 1 = refl in
    let v : size (sign marks.Semicolon) ≡ 1 = refl in
    let e : q + size source + 1 + size (rows s.rules) + 1 ≡ q + size (source ⨾ sign marks.Colon ⨾ rows s.rules ⨾ sign marks.Semicolon) = omega (arith, a, b, c, u, v) in
    calm source (state_calm s.source) q (Sign marks.Colon ∷ phrase_then (rows s.rules) (Sign marks.Semicolon ∷ r))
    ∙ ap (λ ps. p ∷ ps) (rows_begin spelling before.holes s.rules (each_both IsRule (is_rule spelling before.holes) s.rules w h) p (Sign marks.Semicolon ∷ r) ∙ ap (λ k. later p s.rules ++ beginnings 1 k r) e)
    ∙ sym (ap (λ ps. ps ++ beginnings 1 (q + size (content_phrase (Rules s))) r) (from_positions n p s.source s.rules))

-- the head opens the machine's braces
head_begins : (is_first : Bool) (head : Option (ℕ × ℕ)) → is_some head ≡ is_first → (q : ℕ) (r : List Symbol)
    → beginnings (cond is_first 0 1) q (phrase_then (maybe_phrase head_phrase head) r) ≡ beginnings 1 (q + size (maybe_phrase head_phrase head)) r
head_begins true None h q r = cc
head_begins false None h q r = nothing_skips 1 q r
head_begins true (Some head) h q r = let e : q + 1 + 1 + 1 ≡ q + 3 = omega arith in ap (λ k. beginnings 1 k r) e
head_begins false (Some head) h q r = cc

closing_begins : (b : Bool) (q : ℕ) → beginnings 1 q (phrase_then (sign_if b (sign marks.CloseBrace)) []) ≡ []
closing_begins true q = refl
closing_begins false q = refl

clause_begins : (spelling : Spelling) (before : Before) (is_first is_last : Bool) (c : Clause) (ts : List Symbol) → IsClause spelling before is_first is_last c ts → (n q : ℕ) (r : List Symbol)
    → beginnings (cond is_first 0 1) q (phrase_then (maybe_phrase head_phrase c.head) (phrase_then (content_phrase c.content) r))
    ≡ positions (rules_of_content n (behind_head q c) c.content) ++ beginnings 1 (behind_head q c + size (content_phrase c.content)) r
clause_begins spelling before is_first is_last c ts w n q r =
    head_begins is_first c.head w.first q (phrase_then (content_phrase c.content) r) ∙ content_begins spelling before c.content w.content w.patterns n (behind_head q c) r

joined : (xs ys : List PlacedRule) → positions (xs ++ ys) ≡ positions xs ++ positions ys
joined [] ys = refl
joined (x ∷ xs) ys = ap (λ ps. x.position ∷ ps) (joined xs ys)

-- the closing brace stands behind the last clause alone
behind : (q : ℕ) (c : Clause) → c.closing ≡ false → behind_head q c + size (content_phrase c.content) ≡ behind_clause q c
behind q c h =
    let head = maybe_phrase head_phrase c.head in
    let content = content_phrase c.content in
    let end = sign_if c.closing (sign marks.CloseBrace) in
    let a = size-two (head ⨾ content) end in
    let b = size-two head content in
    let z : size end ≡ 0 = ap (λ x. size (sign_if x (sign marks.CloseBrace))) h in
    let w : length (clause_tokens c) ≡ size (head ⨾ content ⨾ end) = refl in
    omega (arith, a, b, z, w)

text_begins : (spelling : Spelling) (before : Before) (is_first : Bool) (cs : List Clause) (n q : ℕ) → AreWellFormed spelling before is_first cs
    → beginnings (cond is_first 0 1) q (text_tokens cs) ≡ positions (placed_rules n q cs)
text_begins spelling before is_first [] n q w = absurd w
text_begins spelling before is_first (c ∷ []) n q w =
    let found = rules_of_content n (behind_head q c) c.content in
    let k = behind_head q c + size (content_phrase c.content) in
    clause_begins spelling before is_first true c (clause_tokens c) w n q (phrase_then (sign_if c.closing (sign marks.CloseBrace)) [])
    ∙ ap (λ ps. positions found ++ ps) (closing_begins c.closing k) ∙ sym (joined found [])
text_begins spelling before is_first (c ∷ d ∷ cs) n q w =
    let found = rules_of_content n (behind_head q c) c.content in
    let k = behind_head q c + size (content_phrase c.content) in
    let number = n + count_of_rules c.content in
    clause_begins spelling before is_first false c (clause_tokens c) w.0 n q (phrase_then (sign_if c.closing (sign marks.CloseBrace)) (text_tokens (d ∷ cs)))
    ∙ ap (λ b. positions found ++ beginnings 1 k (phrase_then (sign_if b (sign marks.CloseBrace)) (text_tokens (d ∷ cs)))) w.0.closed
    ∙ ap (λ j. positions found ++ beginnings 1 j (text_tokens (d ∷ cs))) (behind q c w.0.closed)
    ∙ ap (λ ps. positions found ++ ps) (text_begins spelling (behind_content spelling c.content before) false (d ∷ cs) number (behind_clause q c) w.1)
    ∙ sym (joined found (placed_rules number (behind_clause q c) (d ∷ cs)))

pub rules_begin : (spelling : Spelling) (ts : List Symbol) (cs : List Clause) → IsText spelling cs ts → beginnings 0 0 ts ≡ map (λ r. r.position) (rules_of cs)
rules_begin spelling ts cs w =
    let t = (texts_are_their_tokens spelling ts cs).0 w in
    ap (beginnings 0 0) t.0 ∙ text_begins spelling nothing_before true cs 1 0 t.1
