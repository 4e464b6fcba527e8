-- How many symbols a phrase has, and how many tokens of a text are those of its parts.
use Rattle.std.proofs.Common.{◌≡◌, ℕ, suc, ◌+◌, ◌<◌, ◌≤◌, Bool, List, [], ◌∷◌, ◌++◌, length, get_or, drop, map, Option, Some, ap, refl, ◌∙◌, sym, subst, add-one, drop-cons, arith, length-append}
use Rattle.std.proofs.lemmas.List.{length-map}
use Rattle.c_tree.specs.declared.punctuator.Punctuator.TheVariants as marks
use Rattle.c_tree.specs.declared.token.Token.{Token}
use Rattle.c_tree.specs.Symbol.{Symbol, symbol_of, symbols_of}
use Rattle.c_tree.specs.Phrase.{Phrase, nothing, one, all, ◌⨾◌, phrase_then, sign}
use Rattle.metal_grammar.specs.Words.{Spelling}
use Rattle.metal_grammar.specs.Written as text
use Rattle.metal_grammar.specs.Grammar.{Before}
use Rattle.metal_grammar.specs.Rules.{size}
use Rattle.metal_grammar.specs.Phrases.{word, maybe_phrase, sign_if, row_phrase, type_phrase, head_phrase, state_phrase, rule_phrase, section_phrase, clause_tokens}
use Rattle.metal_grammar.specs.Ways.Steps.{read_type, read_rule}
use Rattle.metal_grammar.specs.Reading.{read_clause}
use Rattle.metal_grammar.proofs.SoundParts.{type-sound}
use Rattle.metal_grammar.proofs.SoundRules.{rule-sound}
use Rattle.metal_grammar.proofs.Sound.{clause-sound}
use Rattle.metal_written.specs.declared.written.WrittenRule.{WrittenRule}
use Rattle.metal_written.specs.declared.written.Section.{Section}
use Rattle.metal_written.specs.declared.written.Clause.{Clause}
use Rattle.metal_written.specs.Sizes.{HaveSizes, ClauseHasSizes, ClausesHaveSizes, size_of_all, size_of_rules}
use Rattle.metal_written.specs.Written.{row_from, no_rule, rule_view, state_view, section_view}

pub sized : (p : Phrase) (ts : List Symbol) → length (phrase_then p ts) ≡ size p + length ts
sized nothing ts = omega arith
sized (one s) ts = omega arith
sized (all ss) ts = omega (arith, length-append ss ts, length-append {A = Symbol} ss [])
sized (p ⨾ q) ts = let a = sized p (phrase_then q ts) in let b = sized q ts in let c = sized p (phrase_then q []) in omega (arith, a, b, c)

pub size-two : (p q : Phrase) → size (p ⨾ q) ≡ size p + size q
size-two p q = sized p (phrase_then q [])

-- so many symbols were taken
pub taken : (p : Phrase) (ts r : List Symbol) → ts ≡ phrase_then p r → length ts ≡ size p + length r
taken p ts r h = ap length h ∙ sized p r

pub sizes-push : (rs : List WrittenRule) (r : WrittenRule) → HaveSizes rs → r.size ≡ size (rule_phrase (rule_view r)) → HaveSizes (rs ++ (r ∷ []))
sizes-push [] r h e = (e, tt)
sizes-push (s ∷ rs) r h e = (h.0, sizes-push rs r h.1 e)

symbols-length : (ts : List Token) → length (symbols_of ts) ≡ length ts
symbols-length ts = length-map ts symbol_of

-- the tokens that a type, a rule and a clause are
pub type-size : (ts rest : List Token) (t : text.WrittenType) → read_type (symbols_of ts) ≡ Some (t, symbols_of rest) → length ts ≡ size (type_phrase t) + length rest
type-size ts rest t h =
    let e = taken (type_phrase t) (symbols_of ts) (symbols_of rest) (type-sound (symbols_of ts) t (symbols_of rest) h) in
    let a = symbols-length ts in let b = symbols-length rest in omega (arith, e, a, b)

pub rule-size : (ts rest : List Token) (r : text.WrittenRule) → read_rule (symbols_of ts) ≡ Some (r, symbols_of rest) → length ts ≡ size (rule_phrase r) + length rest
rule-size ts rest r h =
    let e = taken (rule_phrase r) (symbols_of ts) (symbols_of rest) (rule-sound (symbols_of ts) r (symbols_of rest) h).0 in
    let a = symbols-length ts in let b = symbols-length rest in omega (arith, e, a, b)

pub clause-size : (spelling : Spelling) (before : Before) (is_first is_last : Bool) (ts : List Token) (c : text.Clause)
    → read_clause spelling before is_first is_last (symbols_of ts) ≡ Some c → length ts ≡ length (clause_tokens c)
clause-size spelling before is_first is_last ts c h = sym (symbols-length ts) ∙ ap length (clause-sound spelling before is_first is_last (symbols_of ts) c h).tokens

-- the tokens before the names of a declaration
pub declared-size : (state : Option ℕ) (decl : ℕ) (t : text.WrittenType) → size (maybe_phrase word state ⨾ word decl ⨾ type_phrase t) ≡ size (maybe_phrase word state) + 1 + size (type_phrase t)
declared-size state decl t =
    let a = size-two (maybe_phrase word state) (word decl ⨾ type_phrase t) in
    let b = size-two (word decl) (type_phrase t) in
    let c : size (word decl) ≡ 1 = refl in
    omega (arith, a, b, c)

-- the clause that stands there, and those behind it
pub sizes-next : (cs : List Clause) (i : ℕ) (d : Clause) → i < length cs → ClausesHaveSizes (drop i cs) → ClauseHasSizes (get_or cs i d) × ClausesHaveSizes (drop (i + 1) cs)
sizes-next cs i d h s =
    let e : ClausesHaveSizes (get_or cs i d ∷ drop (suc i) cs) = subst ClausesHaveSizes (drop-cons cs i d h) s in
    (e.0, subst (λ j. ClausesHaveSizes (drop j cs)) (sym (add-one i)) e.1)

pub total-next : (cs : List Clause) (i : ℕ) (d : Clause) → i < length cs → size_of_all (drop i cs) ≡ (get_or cs i d).size + size_of_all (drop (i + 1) cs)
total-next cs i d h = ap size_of_all (drop-cons cs i d h) ∙ ap (λ j. (get_or cs i d).size + size_of_all (drop j cs)) (sym (add-one i))

-- the same of rules
pub rules-sizes-next : (rs : List WrittenRule) (i : ℕ) (d : WrittenRule) → i < length rs → HaveSizes (drop i rs) → ((get_or rs i d).size ≡ size (rule_phrase (rule_view (get_or rs i d)))) × HaveSizes (drop (i + 1) rs)
rules-sizes-next rs i d h s =
    let e : HaveSizes (get_or rs i d ∷ drop (suc i) rs) = subst HaveSizes (drop-cons rs i d h) s in
    (e.0, subst (λ j. HaveSizes (drop j rs)) (sym (add-one i)) e.1)

pub rules-total-next : (rs : List WrittenRule) (i : ℕ) (d : WrittenRule) → i < length rs → size_of_rules (drop i rs) ≡ (get_or rs i d).size + 1 + size_of_rules (drop (i + 1) rs)
rules-total-next rs i d h = ap size_of_rules (drop-cons rs i d h) ∙ ap (λ j. (get_or rs i d).size + 1 + size_of_rules (drop j rs)) (sym (add-one i))

-- one more clause
pub clauses-sizes-push : (cs : List Clause) (c : Clause) → ClausesHaveSizes cs → ClauseHasSizes c → ClausesHaveSizes (cs ++ (c ∷ []))
clauses-sizes-push [] c h e = (e, tt)
clauses-sizes-push (d ∷ cs) c h e = (h.0, clauses-sizes-push cs c h.1 e)

pub total-push : (cs : List Clause) (c : Clause) → size_of_all (cs ++ (c ∷ [])) ≡ size_of_all cs + c.size
total-push [] c = omega arith
total-push (d ∷ cs) c = let e = total-push cs c in omega (arith, e)

-- the rules of a section have room in their clause
pub rules-size : (rs : List WrittenRule) → 0 < length rs → HaveSizes rs → size_of_rules rs ≡ size (row_phrase (sign marks.Bar) rule_phrase (row_from no_rule (map rule_view rs))) + 1
rules-size [] h s = absurd (omega arith)
rules-size (r ∷ []) h s =
    let e = s.0 in
    let w : size (row_phrase (sign marks.Bar) rule_phrase (row_from no_rule (map rule_view (r ∷ [])))) ≡ size (rule_phrase (rule_view r)) = refl in
    omega (arith, e, w)
rules-size (r ∷ q ∷ rs) h s =
    let others = row_phrase (sign marks.Bar) rule_phrase (row_from no_rule (map rule_view (q ∷ rs))) in
    let a = rules-size (q ∷ rs) (omega arith) s.1 in
    let b = size-two (rule_phrase (rule_view r)) (sign marks.Bar ⨾ others) in
    let c = size-two (sign marks.Bar) others in
    let d : size (sign marks.Bar) ≡ 1 = refl in
    let e = s.0 in
    let w : size (row_phrase (sign marks.Bar) rule_phrase (row_from no_rule (map rule_view (r ∷ q ∷ rs)))) ≡ size (rule_phrase (rule_view r) ⨾ sign marks.Bar ⨾ others) = refl in
    omega (arith, a, b, c, d, e, w)

pub section-fits : (head : Option (ℕ × ℕ)) (s : Section) (closing : Bool) (n : ℕ) → 0 < length s.rules.now → HaveSizes s.rules.now
    → n ≡ length (clause_tokens (record { head = head; content = text.Rules (section_view s); closing = closing }))
    → size (maybe_phrase head_phrase head) + (size (state_phrase (state_view s.source)) + 1) + size_of_rules s.rules.now ≤ n
section-fits head s closing n p h e =
    let rows = row_phrase (sign marks.Bar) rule_phrase (row_from no_rule (map rule_view s.rules.now)) in
    let source = state_phrase (state_view s.source) in
    let end = sign_if closing (sign marks.CloseBrace) in
    let w : n ≡ size (maybe_phrase head_phrase head ⨾ section_phrase (section_view s) ⨾ end) = e in
    let a = size-two (maybe_phrase head_phrase head) (section_phrase (section_view s) ⨾ end) in
    let b = size-two (section_phrase (section_view s)) end in
    let v : size (section_phrase (section_view s)) ≡ size (source ⨾ sign marks.Colon ⨾ rows ⨾ sign marks.Semicolon) = refl in
    let c = size-two source (sign marks.Colon ⨾ rows ⨾ sign marks.Semicolon) in
    let d = size-two (sign marks.Colon) (rows ⨾ sign marks.Semicolon) in
    let f = size-two rows (sign marks.Semicolon) in
    let g = rules-size s.rules.now p h in
    let k : size (sign marks.Colon) ≡ 1 = refl in
    let l : size (sign marks.Semicolon) ≡ 1 = refl in
    omega (arith, w, a, b, v, c, d, f, g, k, l)

-- one more rule is read
pub sizes-turn : (rs pushed : List WrittenRule) (r : WrittenRule) (ts rest : List Token) → HaveSizes rs → read_rule (symbols_of ts) ≡ Some (rule_view r, symbols_of rest) → r.size + length rest ≡ length ts → pushed ≡ rs ++ (r ∷ []) → HaveSizes pushed
sizes-turn rs pushed r ts rest h f s n =
    let e = rule-size ts rest (rule_view r) f in
    subst HaveSizes (sym n) (sizes-push rs r h (omega (arith, e, s)))
