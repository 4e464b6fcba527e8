-- Symbols are a text just where they are the tokens of its clauses, which are well-formed.
use Rattle.std.proofs.Common.{◌≡◌, ℕ, Bool, true, false, cond, ◌&&◌, is_some, List, [], ◌∷◌, ◌++◌, map, Option, None, Some, ap, refl, ◌∙◌, sym, subst}
use Rattle.c_tree.specs.declared.punctuator.Punctuator.TheVariants as marks
use Rattle.c_tree.specs.Symbol.{Symbol, Word, Sign}
use Rattle.c_tree.specs.Phrase.{Phrase, nothing, one, all, ◌⨾◌, phrase_then, sign}
use Rattle.metal_grammar.specs.Words.{Spelling}
use Rattle.metal_grammar.specs.Written.{StateName, OfMachine, OfVariable, Content, Nothing, Declares, Rules, Clause}
use Rattle.metal_grammar.specs.Phrases.{word, maybe_phrase, sign_if, state_phrase, content_phrase, head_phrase, clause_phrase, clause_tokens}
use Rattle.metal_grammar.specs.Clauses.{in_front, ends_here, clauses_behind, closes, ends_clause, open_behind, clauses_from, clauses_of}
use Rattle.metal_grammar.specs.Grammar.{Before, nothing_before, behind_content, is_content, IsContent, may_contain, IsClause, is_last, AreClauses, IsText, text_tokens, AreWellFormed}
use Rattle.metal_grammar.specs.Theorems.{TextsAreTheirTokens}
use Rattle.metal_grammar.proofs.Cuts.{front, in_one, ends_last, ends_before}
use Rattle.metal_grammar.proofs.Passing.{body, body_passes}

-- the last content, with the closing brace behind it
last_content : (spelling : Spelling) (before : Before) (c : Content) → is_content spelling before c ≡ true → IsContent c
    → clauses_from 1 (phrase_then (content_phrase c) (Sign marks.CloseBrace ∷ [])) ≡ phrase_then (content_phrase c) (Sign marks.CloseBrace ∷ []) ∷ []
last_content spelling before Nothing h w = refl
last_content spelling before (Declares d) h w = ends_last (body (Declares d)) (Sign marks.CloseBrace ∷ []) (body_passes spelling before (Declares d) h w) refl
last_content spelling before (Rules s) h w = ends_last (body (Rules s)) (Sign marks.CloseBrace ∷ []) (body_passes spelling before (Rules s) h w) refl

-- a content that another clause follows
earlier_content : (spelling : Spelling) (before : Before) (c : Content) (r : List Symbol) → is_content spelling before c ≡ true → IsContent c → may_contain false c ≡ true → ends_here r ≡ false
    → clauses_from 1 (phrase_then (content_phrase c) r) ≡ phrase_then (content_phrase c) [] ∷ clauses_from 1 r
earlier_content spelling before Nothing r h w m e = cc
earlier_content spelling before (Declares d) r h w m e = ends_before (body (Declares d)) r (body_passes spelling before (Declares d) h w) e
earlier_content spelling before (Rules s) r h w m e = ends_before (body (Rules s)) r (body_passes spelling before (Rules s) h w) e

-- a content that isn't lacking begins with a name
content_begins : (c : Content) (r : List Symbol) → may_contain false c ≡ true → ends_here (phrase_then (content_phrase c) r) ≡ false
content_begins Nothing r m = cc
content_begins (Declares d) r m = declaration_begins d.state _
  where
    declaration_begins : (state : Option ℕ) (x : List Symbol) → ends_here (phrase_then (maybe_phrase word state) (Word d.decl ∷ x)) ≡ false
    declaration_begins None x = refl
    declaration_begins (Some name) x = refl
content_begins (Rules s) r m = state_begins s.source _
  where
    state_begins : (state : StateName) (x : List Symbol) → ends_here (phrase_then (state_phrase state) x) ≡ false
    state_begins (OfMachine state) x = refl
    state_begins (OfVariable variable state) x = refl

no_head : (head : Option (ℕ × ℕ)) (x : List Symbol) → is_some head ≡ false → ends_here x ≡ false → ends_here (phrase_then (maybe_phrase head_phrase head) x) ≡ false
no_head None x h e = e
no_head (Some head) x h e = cc

-- the head opens the machine's braces
head_passes : (is_first : Bool) (head : Option (ℕ × ℕ)) (r : List Symbol) → is_some head ≡ is_first
    → clauses_from (cond is_first 0 1) (phrase_then (maybe_phrase head_phrase head) r) ≡ front (maybe_phrase head_phrase head) (clauses_from 1 r)
head_passes true None r h = cc
head_passes false None r h = refl
head_passes true (Some head) r h = refl
head_passes false (Some head) r h = cc

never : (b : Bool) → (b && false) ≡ false
never true = refl
never false = refl

last_clause : (spelling : Spelling) (before : Before) (is_first : Bool) (c : Clause) → IsClause spelling before is_first true c (clause_tokens c) → clauses_from (cond is_first 0 1) (clause_tokens c) ≡ clause_tokens c ∷ []
last_clause spelling before is_first c p =
    let head = maybe_phrase head_phrase c.head in
    let X = phrase_then (content_phrase c.content) (Sign marks.CloseBrace ∷ []) in
    rw (p.closed) (head_passes is_first c.head X p.first ∙ ap (front head) (last_content spelling before c.content p.content p.patterns) ∙ in_one head X [])

earlier_clause : (spelling : Spelling) (before : Before) (is_first : Bool) (c : Clause) (r : List Symbol) → IsClause spelling before is_first false c (clause_tokens c) → ends_here r ≡ false
    → clauses_from (cond is_first 0 1) (phrase_then (clause_phrase c) r) ≡ clause_tokens c ∷ clauses_from 1 r
earlier_clause spelling before is_first c r p e =
    let head = maybe_phrase head_phrase c.head in
    let m : may_contain false c.content ≡ true = subst (λ b. may_contain b c.content ≡ true) (never is_first) p.filled in
    rw (p.closed)
    (head_passes is_first c.head (phrase_then (content_phrase c.content) r) p.first
    ∙ ap (front head) (earlier_content spelling before c.content r p.content p.patterns m e)
    ∙ in_one head (phrase_then (content_phrase c.content) []) (clauses_from 1 r))

later_begins : (spelling : Spelling) (before : Before) (is_last : Bool) (c : Clause) (r : List Symbol) → IsClause spelling before false is_last c (clause_tokens c) → ends_here (phrase_then (clause_phrase c) r) ≡ false
later_begins spelling before is_last c r p =
    no_head c.head _ p.first (content_begins c.content (phrase_then (sign_if c.closing (sign marks.CloseBrace)) r) p.filled)

later_texts : (spelling : Spelling) (before : Before) (c : Clause) (cs : List Clause) → AreWellFormed spelling before false (c ∷ cs) → ends_here (text_tokens (c ∷ cs)) ≡ false
later_texts spelling before c [] w = later_begins spelling before true c [] w
later_texts spelling before c (d ∷ cs) w = later_begins spelling before false c (text_tokens (d ∷ cs)) w.0

-- the clauses of a text's tokens are the tokens of its clauses
cut : (spelling : Spelling) (before : Before) (is_first : Bool) (cs : List Clause) → AreWellFormed spelling before is_first cs → clauses_from (cond is_first 0 1) (text_tokens cs) ≡ map clause_tokens cs
cut spelling before is_first [] w = absurd w
cut spelling before is_first (c ∷ []) w = last_clause spelling before is_first c w
cut spelling before is_first (c ∷ d ∷ cs) w =
    earlier_clause spelling before is_first c (text_tokens (d ∷ cs)) w.0 (later_texts spelling (behind_content spelling c.content before) d cs w.1)
    ∙ ap (λ x. clause_tokens c ∷ x) (cut spelling (behind_content spelling c.content before) false (d ∷ cs) w.1)

are_clauses : (spelling : Spelling) (before : Before) (is_first : Bool) (cs : List Clause) → AreWellFormed spelling before is_first cs → AreClauses spelling before is_first cs (map clause_tokens cs)
are_clauses spelling before is_first [] w = absurd w
are_clauses spelling before is_first (c ∷ []) w = (w, tt)
are_clauses spelling before is_first (c ∷ d ∷ cs) w = (w.0, are_clauses spelling (behind_content spelling c.content before) false (d ∷ cs) w.1)

-- cutting loses nothing
abbrev joined : List (List Symbol) → List Symbol
joined [] = []
joined (c ∷ cs) = c ++ joined cs

with_nothing : (ts : List Symbol) → ts ++ [] ≡ ts
with_nothing [] = refl
with_nothing (t ∷ ts) = ap (λ x. t ∷ x) (with_nothing ts)

joined_front : (t : Symbol) (cs : List (List Symbol)) → joined (in_front t cs) ≡ t ∷ joined cs
joined_front t [] = refl
joined_front t (c ∷ cs) = refl

joined_by : (a b e : Bool) (ts : List Symbol) (others : List (List Symbol)) → joined others ≡ ts → joined (cond a (ts ∷ []) (cond b (cond e (ts ∷ []) ([] ∷ others)) others)) ≡ ts
joined_by true b e ts others h = with_nothing ts
joined_by false true true ts others h = with_nothing ts
joined_by false true false ts others h = h
joined_by false false e ts others h = h

joined_all : (depth : ℕ) (ts : List Symbol) → joined (clauses_from depth ts) ≡ ts
joined_all depth [] = refl
joined_all depth (t ∷ ts) =
    joined_front t (clauses_behind depth t ts (clauses_from (open_behind depth t) ts))
    ∙ ap (λ x. t ∷ x) (joined_by (closes depth t) (ends_clause depth t) (ends_here ts) ts (clauses_from (open_behind depth t) ts) (joined_all (open_behind depth t) ts))

append_behind : (ss a r : List Symbol) → ss ++ (a ++ r) ≡ (ss ++ a) ++ r
append_behind [] a r = refl
append_behind (s ∷ ss) a r = ap (λ x. s ∷ x) (append_behind ss a r)

phrase_behind : (p : Phrase) (a r : List Symbol) → phrase_then p (a ++ r) ≡ phrase_then p a ++ r
phrase_behind nothing a r = refl
phrase_behind (one s) a r = refl
phrase_behind (all ss) a r = append_behind ss a r
phrase_behind (p ⨾ q) a r = ap (phrase_then p) (phrase_behind q a r) ∙ phrase_behind p (phrase_then q a) r

texts_joined : (spelling : Spelling) (before : Before) (is_first : Bool) (cs : List Clause) (tss : List (List Symbol)) → AreClauses spelling before is_first cs tss → joined tss ≡ text_tokens cs
texts_joined spelling before is_first [] [] w = refl
texts_joined spelling before is_first [] (ts ∷ tss) w = absurd w
texts_joined spelling before is_first (c ∷ cs) [] w = absurd w
texts_joined spelling before is_first (c ∷ cs) (ts ∷ tss) w =
    ap (λ x. x ++ joined tss) w.0.tokens
    ∙ ap (λ x. clause_tokens c ++ x) (texts_joined spelling (behind_content spelling c.content before) false cs tss w.1)
    ∙ sym (phrase_behind (clause_phrase c) [] (text_tokens cs))

well_formed : (spelling : Spelling) (before : Before) (is_first : Bool) (cs : List Clause) (ts : List Symbol) (tss : List (List Symbol)) → AreClauses spelling before is_first cs (ts ∷ tss) → AreWellFormed spelling before is_first cs
well_formed spelling before is_first [] ts tss w = absurd w
well_formed spelling before is_first (c ∷ []) ts [] w = subst (λ x. IsClause spelling before is_first true c x) w.0.tokens w.0
well_formed spelling before is_first (c ∷ []) ts (us ∷ tss) w = absurd w.1
well_formed spelling before is_first (c ∷ d ∷ cs) ts [] w = absurd w.1
well_formed spelling before is_first (c ∷ d ∷ cs) ts (us ∷ tss) w =
    (subst (λ x. IsClause spelling before is_first false c x) w.0.tokens w.0, well_formed spelling (behind_content spelling c.content before) false (d ∷ cs) us tss w.1)

front_some : (t : Symbol) (cs : List (List Symbol)) → (x : List Symbol) × (xs : List (List Symbol)) × (in_front t cs ≡ x ∷ xs)
front_some t [] = (t ∷ [], [], refl)
front_some t (c ∷ cs) = (t ∷ c, cs, refl)

-- a text has one clause at least
some_clause : (depth : ℕ) (ts : List Symbol) → (x : List Symbol) × (xs : List (List Symbol)) × (clauses_from depth ts ≡ x ∷ xs)
some_clause depth [] = ([], [], refl)
some_clause depth (t ∷ ts) = front_some t (clauses_behind depth t ts (clauses_from (open_behind depth t) ts))

tokens-sound : (spelling : Spelling) (ts : List Symbol) (cs : List Clause) → IsText spelling cs ts → (ts ≡ text_tokens cs) × AreWellFormed spelling nothing_before true cs
tokens-sound spelling ts cs w =
    let s = some_clause 0 ts in
    (sym (joined_all 0 ts) ∙ texts_joined spelling nothing_before true cs (clauses_of ts) w, well_formed spelling nothing_before true cs s.0 s.1 (subst (AreClauses spelling nothing_before true cs) s.2 w))

tokens-complete : (spelling : Spelling) (ts : List Symbol) (cs : List Clause) → ts ≡ text_tokens cs → AreWellFormed spelling nothing_before true cs → IsText spelling cs ts
tokens-complete spelling ts cs e w =
    subst (λ x. AreClauses spelling nothing_before true cs x) (sym (ap clauses_of e ∙ cut spelling nothing_before true cs w)) (are_clauses spelling nothing_before true cs w)

pub texts_are_their_tokens : TextsAreTheirTokens
texts_are_their_tokens spelling ts cs = (tokens-sound spelling ts cs, λ p. tokens-complete spelling ts cs p.0 p.1)
