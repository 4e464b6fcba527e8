-- What is read as a clause is one.
use Rattle.std.proofs.Common.{◌≡◌, ℕ, suc, Bool, true, false, ◌&&◌, is_some, List, [], ◌∷◌, length, codes, Option, None, Some, inl, inr, ap, refl, ◌∙◌, subst}
use Rattle.c_tree.specs.declared.punctuator.Punctuator.TheVariants as marks
use Rattle.c_tree.specs.Symbol.{Symbol, Word, Sign}
use Rattle.c_tree.specs.Phrase.{phrase_then, sign}
use Rattle.c_grammar.specs.Symbols.{after_sign}
use Rattle.c_grammar.proofs.Options.{bound, when, which, both, same}
use Rattle.c_grammar.proofs.Front.{taken}
use Rattle.metal_grammar.specs.Words.{Spelling, is_spelled}
use Rattle.metal_grammar.specs.Written.{Declaration, Content, Nothing, Declares, Rules, Clause}
use Rattle.metal_grammar.specs.Phrases.{word, row_phrase, maybe_phrase, sign_if, type_phrase, declaration_phrase, content_phrase, head_phrase}
use Rattle.metal_grammar.specs.Grammar.{Before, IsContent, is_head, is_content, may_contain, IsClause}
use Rattle.metal_grammar.specs.Ways.Steps.{take_word, read_row, read_type, read_declared, read_declaration, read_section, has_sign, begins_section, read_content}
use Rattle.metal_grammar.specs.Reading.{read_head, after_closing, if_at_end, read_clause}
use Rattle.metal_grammar.proofs.Carried.{IsSound, carried, taken_word}
use Rattle.metal_grammar.proofs.SoundParts.{row-sound, type-sound}
use Rattle.metal_grammar.proofs.SoundRules.{section-sound}

-- a name is a step without a pattern
name-sound : IsSound take_word word (λ name. Unit {0})
name-sound ts name r h = (taken_word ts name r h, tt)

declared-sound : (state : Option ℕ) (decl : ℕ) (ts : List Symbol) (d : Declaration) (r : List Symbol)
    → read_declared state decl ts ≡ Some (d, r) → phrase_then (maybe_phrase word state) (Word decl ∷ ts) ≡ phrase_then (declaration_phrase d) r
declared-sound state decl ts d r h =
    let t = bound (read_type ts) _ _ h in
    let n = bound (read_row take_word marks.Comma (suc (length t.0.1)) t.0.1) _ _ t.2 in
    let s = row-sound take_word word (λ name. Unit {0}) marks.Comma (suc (length t.0.1)) t.0.1 n.0.0 n.0.1 name-sound n.1 in
    let e = bound (after_sign marks.Semicolon n.0.1) _ _ n.2 in
    let made : Declaration = record { state = state; decl = decl; type = t.0.0; names = n.0.0 } in
    let end : t.0.1 ≡ phrase_then (row_phrase (sign marks.Comma) word n.0.0) (Sign marks.Semicolon ∷ e.0) =
    s.0 ∙ ap (λ x. phrase_then (row_phrase (sign marks.Comma) word n.0.0) x) (taken marks.Semicolon n.0.1 e.0 e.1) in
    carried (λ x y. phrase_then (maybe_phrase word state) (Word decl ∷ ts) ≡ phrase_then (declaration_phrase x) y) made d e.0 r e.2
    (ap (λ x. phrase_then (maybe_phrase word state) (Word decl ∷ x)) (type-sound ts t.0.0 t.0.1 t.1 ∙ ap (λ x. phrase_then (type_phrase t.0.0) x) end))

declaration-sound : (spelling : Spelling) (ts : List Symbol) (d : Declaration) (r : List Symbol) → read_declaration spelling ts ≡ Some (d, r) → ts ≡ phrase_then (declaration_phrase d) r
declaration-sound spelling ts d r h =
    let w = bound (take_word ts) _ _ h in
    let first = taken_word ts w.0.0 w.0.1 w.1 in
    elim (which (is_spelled spelling (codes "state") w.0.0) _ _ _ w.2) as (λ _. ts ≡ phrase_then (declaration_phrase d) r) [
      | inl o ↦
          let a = bound (take_word w.0.1) _ _ o.1 in
          first ∙ ap (λ x. Word w.0.0 ∷ x) (taken_word w.0.1 a.0.0 a.0.1 a.1) ∙ declared-sound (Some w.0.0) a.0.0 a.0.1 d r a.2
      | inr o ↦ first ∙ declared-sound None w.0.0 w.0.1 d r o.1
    ]

-- the content stands there, and where it lacks the clause is alone
abbrev pub Contains : Bool → List Symbol → Content → List Symbol → Type 0
Contains alone ts c r = (ts ≡ phrase_then (content_phrase c) r) × IsContent c × (may_contain alone c ≡ true)

content-sound : (spelling : Spelling) (alone : Bool) (ts : List Symbol) (c : Content) (r : List Symbol) → read_content spelling alone ts ≡ Some (c, r) → Contains alone ts c r
content-sound spelling alone ts c r h =
    elim (which (alone && has_sign marks.CloseBrace ts) _ _ _ h) as (λ _. Contains alone ts c r) [
      | inl o ↦ let a = both alone (has_sign marks.CloseBrace ts) o.0 in carried (Contains alone ts) Nothing c ts r o.1 (refl, tt, a.0)
      | inr o ↦ elim (which (begins_section ts) _ _ _ o.1) as (λ _. Contains alone ts c r) [
        | inl p ↦
            let a = bound (read_section ts) _ _ p.1 in
            let s = section-sound ts a.0.0 a.0.1 a.1 in
            carried (Contains alone ts) (Rules a.0.0) c a.0.1 r a.2 (s.0, s.1, refl)
        | inr p ↦
            let a = bound (read_declaration spelling ts) _ _ p.1 in
            carried (Contains alone ts) (Declares a.0.0) c a.0.1 r a.2 (declaration-sound spelling ts a.0.0 a.0.1 a.1, tt, refl)
      ]
    ]

abbrev pub Heads : Bool → List Symbol → Option (ℕ × ℕ) → List Symbol → Type 0
Heads is_first ts head r = (ts ≡ phrase_then (maybe_phrase head_phrase head) r) × (is_some head ≡ is_first)

head-sound : (is_first : Bool) (ts : List Symbol) (head : Option (ℕ × ℕ)) (r : List Symbol) → read_head is_first ts ≡ Some (head, r) → Heads is_first ts head r
head-sound true ts head r h =
    let a = bound (take_word ts) _ _ h in
    let b = bound (take_word a.0.1) _ _ a.2 in
    let e = bound (after_sign marks.OpenBrace b.0.1) _ _ b.2 in
    carried (Heads true ts) (Some (a.0.0, b.0.0)) head e.0 r e.2
    (taken_word ts a.0.0 a.0.1 a.1 ∙ ap (λ x. Word a.0.0 ∷ x) (taken_word a.0.1 b.0.0 b.0.1 b.1 ∙ ap (λ x. Word b.0.0 ∷ x) (taken marks.OpenBrace b.0.1 e.0 e.1)), refl)
head-sound false ts head r h = carried (Heads false ts) None head ts r h (refl, refl)

closing-sound : (is_last : Bool) (ts r : List Symbol) → after_closing is_last ts ≡ Some r → ts ≡ phrase_then (sign_if is_last (sign marks.CloseBrace)) r
closing-sound true ts r h = taken marks.CloseBrace ts r h
closing-sound false ts r h = same ts r h

at_end : (c d : Clause) (ts : List Symbol) → if_at_end c ts ≡ Some d → (ts ≡ []) × (c ≡ d)
at_end c d [] h = (refl, same c d h)
at_end c d (t ∷ ts) h = cc

pub clause-sound : (spelling : Spelling) (before : Before) (is_first is_last : Bool) (ts : List Symbol) (c : Clause)
    → read_clause spelling before is_first is_last ts ≡ Some c → IsClause spelling before is_first is_last c ts
clause-sound spelling before is_first is_last ts c h =
    let a = bound (read_head is_first ts) _ _ h in
    let b = bound (read_content spelling (is_first && is_last) a.0.1) _ _ a.2 in
    let e = bound (after_closing is_last b.0.1) _ _ b.2 in
    let made : Clause = record { head = a.0.0; content = b.0.0; closing = is_last } in
    let k = when (is_head spelling a.0.0 && is_content spelling before b.0.0) (if_at_end made e.0) c e.2 in
    let w = both (is_head spelling a.0.0) (is_content spelling before b.0.0) k.0 in
    let z = at_end made c e.0 k.1 in
    let head = head-sound is_first ts a.0.0 a.0.1 a.1 in
    let content = content-sound spelling (is_first && is_last) a.0.1 b.0.0 b.0.1 b.1 in
    let end : b.0.1 ≡ phrase_then (sign_if is_last (sign marks.CloseBrace)) [] = closing-sound is_last b.0.1 e.0 e.1 ∙ ap (λ x. phrase_then (sign_if is_last (sign marks.CloseBrace)) x) z.0 in
    let inside : a.0.1 ≡ phrase_then (content_phrase b.0.0) (phrase_then (sign_if is_last (sign marks.CloseBrace)) []) = content.0 ∙ ap (λ x. phrase_then (content_phrase b.0.0) x) end in
    let well : IsClause spelling before is_first is_last made ts = record {
      tokens = head.0 ∙ ap (λ x. phrase_then (maybe_phrase head_phrase a.0.0) x) inside;
      first = head.1;
      closed = refl;
      head = w.0;
      filled = content.2;
      content = w.1;
      patterns = content.1;
    } in
    subst (λ x. IsClause spelling before is_first is_last x ts) z.1 well
