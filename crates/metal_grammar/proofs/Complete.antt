-- Each clause is read, so symbols are at most one clause.
use Rattle.std.proofs.Common.{◌≡◌, ℕ, suc, Bool, true, false, nat_eq, ◌&&◌, is_some, bytes_eq, List, [], ◌∷◌, length, codes, Option, None, Some, ap, refl, ◌∙◌, sym, subst, arith}
use Rattle.c_tree.specs.declared.punctuator.Punctuator.TheVariants as marks
use Rattle.c_tree.specs.Symbol.{Symbol, Word, Sign}
use Rattle.c_tree.specs.Phrase.{phrase_then, sign}
use Rattle.c_grammar.specs.Symbols.{is_sign, begins}
use Rattle.c_grammar.proofs.Options.{both, same}
use Rattle.metal_grammar.specs.Words.{Spelling, spelled, is_spelled}
use Rattle.metal_grammar.specs.Written.{Row, lone, row, WrittenType, KindOfHole, BasicType, TagType, Declaration, StateName, OfMachine, OfVariable, Content, Nothing, Declares, Rules, Clause}
use Rattle.metal_grammar.specs.Phrases.{word, row_phrase, maybe_phrase, sign_if, type_phrase, declaration_phrase, state_phrase, rule_phrase, content_phrase, head_phrase, clause_tokens}
use Rattle.metal_grammar.specs.Holes.{hole_type}
use Rattle.metal_grammar.specs.Grammar.{Before, EachIs, IsContent, is_type, may_have, spelled_if, is_declaration, is_head, is_content, may_contain, IsClause}
use Rattle.metal_grammar.specs.Ways.Steps.{take_word, read_declared, read_declaration, has_sign, is_colon_or_dot, begins_section, is_type_symbol, read_content}
use Rattle.metal_grammar.specs.Reading.{read_head, after_closing, read_clause}
use Rattle.metal_grammar.proofs.CompleteParts.{Knows, row_longer, row-complete, type-complete, no_words}
use Rattle.metal_grammar.proofs.CompleteRules.{section-complete}

name-complete : Knows take_word word (λ name. Unit {0}) (λ r. Unit {0})
name-complete name r w e = refl

each_unit : (xs : Row ℕ) → EachIs (λ name. Unit {0}) xs
each_unit (lone x) = tt
each_unit (row x xs) = (tt, each_unit xs)

-- a row of names begins with a name
no_star : (names : Row ℕ) (r : List Symbol) → begins (is_sign marks.Star) (phrase_then (row_phrase (sign marks.Comma) word names) r) ≡ false
no_star (lone name) r = refl
no_star (row name names) r = refl

no_type_word : (names : Row ℕ) (r : List Symbol) → begins is_type_symbol (phrase_then (row_phrase (sign marks.Comma) word names) r) ≡ false
no_type_word (lone name) r = refl
no_type_word (row name names) r = refl

declared-complete : (d : Declaration) (r : List Symbol) → is_type d.type ≡ true
    → read_declared d.state d.decl (phrase_then (type_phrase d.type) (phrase_then (row_phrase (sign marks.Comma) word d.names) (Sign marks.Semicolon ∷ r))) ≡ Some (d, r)
declared-complete d r h =
    let Z = Sign marks.Semicolon ∷ r in
    let Y = phrase_then (row_phrase (sign marks.Comma) word d.names) Z in
    rw (
      type-complete d.type Y h (no_star d.names Z, no_type_word d.names Z),
      row-complete take_word word (λ name. Unit {0}) (λ r. Unit {0}) marks.Comma (suc (length Y)) d.names Z name-complete (λ ts. tt) (each_unit d.names) tt refl (row_longer word marks.Comma d.names Z),
    ) refl

another_byte : (b : ℕ) → nat_eq b 100 ≡ true → nat_eq b 115 ≡ false
another_byte b h = grind (arith, h)

-- no word is spelled `decl` and `state`
decl_no_state : (text : List ℕ) → bytes_eq text (codes "decl") ≡ true → bytes_eq text (codes "state") ≡ false
decl_no_state [] h = refl
decl_no_state (b ∷ bs) h = let w = both (nat_eq b 100) _ h in rw (another_byte b w.0) refl

declaration_by : (spelling : Spelling) (state : Option ℕ) (d : Declaration) (r : List Symbol)
    → d.state ≡ state → spelled_if spelling (codes "state") state ≡ true → is_spelled spelling (codes "decl") d.decl ≡ true → is_type d.type ≡ true
    → read_declaration spelling (phrase_then (maybe_phrase word state) (Word d.decl ∷ phrase_then (type_phrase d.type) (phrase_then (row_phrase (sign marks.Comma) word d.names) (Sign marks.Semicolon ∷ r)))) ≡ Some (d, r)
declaration_by spelling None d r s h w t =
    rw (decl_no_state (spelled spelling d.decl) w, sym s) (declared-complete d r t)
declaration_by spelling (Some name) d r s h w t =
    rw (h, sym s) (declared-complete d r t)

declaration-complete : (spelling : Spelling) (before : Before) (d : Declaration) (r : List Symbol) → is_declaration spelling before d ≡ true → read_declaration spelling (phrase_then (declaration_phrase d) r) ≡ Some (d, r)
declaration-complete spelling before d r h =
    let a = both _ (may_have (is_some d.state) (hole_type spelling d.type)) h in
    let b = both _ (is_type d.type) a.0 in
    let c = both _ (is_spelled spelling (codes "decl") d.decl) b.0 in
    let e = both _ (spelled_if spelling (codes "state") d.state) c.0 in
    declaration_by spelling d.state d r refl e.1 c.1 b.1

-- Behind the first name of a declaration stands another name or a type, and behind that of a section `:` or `.`.
type_begins : (t : WrittenType) (r : List Symbol) → is_type t ≡ true → begins is_colon_or_dot (phrase_then (type_phrase t) r) ≡ false
type_begins (KindOfHole name) r h = refl
type_begins (BasicType [] n) r h = let c = no_words in cc
type_begins (BasicType (k ∷ ks) n) r h = refl
type_begins (TagType which tag n) r h = refl

declaration_begins : (state : Option ℕ) (decl : ℕ) (t : WrittenType) (r : List Symbol) → is_type t ≡ true → begins_section (phrase_then (maybe_phrase word state) (Word decl ∷ phrase_then (type_phrase t) r)) ≡ false
declaration_begins None decl t r h = type_begins t r h
declaration_begins (Some name) decl t r h = refl

declaration_no_brace : (state : Option ℕ) (decl : ℕ) (r : List Symbol) → has_sign marks.CloseBrace (phrase_then (maybe_phrase word state) (Word decl ∷ r)) ≡ false
declaration_no_brace None decl r = refl
declaration_no_brace (Some name) decl r = refl

section_begins : (s : StateName) (r : List Symbol) → begins_section (phrase_then (state_phrase s) (Sign marks.Colon ∷ r)) ≡ true
section_begins (OfMachine state) r = refl
section_begins (OfVariable variable state) r = refl

section_no_brace : (s : StateName) (r : List Symbol) → has_sign marks.CloseBrace (phrase_then (state_phrase s) r) ≡ false
section_no_brace (OfMachine state) r = refl
section_no_brace (OfVariable variable state) r = refl

never : (b : Bool) → (b && false) ≡ false
never true = refl
never false = refl

content-complete : (spelling : Spelling) (before : Before) (is_first is_last : Bool) (c : Content) → is_content spelling before c ≡ true → IsContent c → may_contain (is_first && is_last) c ≡ true
    → read_content spelling (is_first && is_last) (phrase_then (content_phrase c) (phrase_then (sign_if is_last (sign marks.CloseBrace)) [])) ≡ Some (c, phrase_then (sign_if is_last (sign marks.CloseBrace)) [])
content-complete spelling before true true Nothing h w m = refl
content-complete spelling before true false Nothing h w m = cc
content-complete spelling before false is_last Nothing h w m = cc
content-complete spelling before is_first is_last (Declares d) h w m =
    let r = phrase_then (sign_if is_last (sign marks.CloseBrace)) [] in
    let Z = phrase_then (row_phrase (sign marks.Comma) word d.names) (Sign marks.Semicolon ∷ r) in
    let a = both _ (may_have (is_some d.state) (hole_type spelling d.type)) h in
    let b = both _ (is_type d.type) a.0 in
    rw (
      declaration_no_brace d.state d.decl (phrase_then (type_phrase d.type) Z),
      never (is_first && is_last),
      declaration_begins d.state d.decl d.type Z b.1,
      declaration-complete spelling before d r h,
    ) refl
content-complete spelling before is_first is_last (Rules s) h w m =
    let r = phrase_then (sign_if is_last (sign marks.CloseBrace)) [] in
    let Z = phrase_then (row_phrase (sign marks.Bar) rule_phrase s.rules) (Sign marks.Semicolon ∷ r) in
    rw (
      section_no_brace s.source (Sign marks.Colon ∷ Z),
      never (is_first && is_last),
      section_begins s.source Z,
      section-complete spelling before.holes s r w h,
    ) refl

head-complete : (is_first : Bool) (head : Option (ℕ × ℕ)) (r : List Symbol) → is_some head ≡ is_first → read_head is_first (phrase_then (maybe_phrase head_phrase head) r) ≡ Some (head, r)
head-complete true None r h = cc
head-complete false None r h = refl
head-complete true (Some head) r h = refl
head-complete false (Some head) r h = cc

closing-complete : (is_last : Bool) → after_closing is_last (phrase_then (sign_if is_last (sign marks.CloseBrace)) []) ≡ Some []
closing-complete true = refl
closing-complete false = refl

clause_read : (spelling : Spelling) (before : Before) (is_first : Bool) (c : Clause)
    → is_some c.head ≡ is_first → is_head spelling c.head ≡ true → may_contain (is_first && c.closing) c.content ≡ true → is_content spelling before c.content ≡ true → IsContent c.content
    → read_clause spelling before is_first c.closing (clause_tokens c) ≡ Some c
clause_read spelling before is_first c f h m k w =
    let Z = phrase_then (sign_if c.closing (sign marks.CloseBrace)) [] in
    rw (
      head-complete is_first c.head (phrase_then (content_phrase c.content) Z) f,
      content-complete spelling before is_first c.closing c.content k w m,
      closing-complete c.closing,
      h,
      k,
    ) refl

pub clause-complete : (spelling : Spelling) (before : Before) (is_first is_last : Bool) (ts : List Symbol) (c : Clause)
    → IsClause spelling before is_first is_last c ts → read_clause spelling before is_first is_last ts ≡ Some c
clause-complete spelling before is_first is_last ts c p =
    let m : may_contain (is_first && c.closing) c.content ≡ true = subst (λ l. may_contain (is_first && l) c.content ≡ true) (sym p.closed) p.filled in
    let e = clause_read spelling before is_first c p.first p.head m p.content p.patterns in
    subst (λ l. read_clause spelling before is_first l ts ≡ Some c) p.closed (ap (read_clause spelling before is_first c.closing) p.tokens ∙ e)

-- symbols are at most one clause
pub one_clause : (spelling : Spelling) (before : Before) (is_first is_last : Bool) (ts : List Symbol) (a b : Clause)
    → IsClause spelling before is_first is_last a ts → IsClause spelling before is_first is_last b ts → a ≡ b
one_clause spelling before is_first is_last ts a b p q =
    same a b (sym (clause-complete spelling before is_first is_last ts a p) ∙ clause-complete spelling before is_first is_last ts b q)
