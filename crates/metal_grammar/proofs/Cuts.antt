-- Phrases within a clause: no clause ends in them.
use Rattle.std.proofs.Common.{◌≡◌, ℕ, suc, Bool, true, false, not, ◌&&◌, ◌||◌, nat_eq, List, [], ◌∷◌, ◌++◌, ap, refl, ◌∙◌, arith}
use Rattle.c_tree.specs.declared.punctuator.Punctuator.{Punctuator}
use Rattle.c_tree.specs.declared.punctuator.Punctuator.TheVariants as marks
use Rattle.c_tree.specs.Symbol.{Symbol, Sign}
use Rattle.c_tree.specs.Phrase.{Phrase, nothing, one, all, ◌⨾◌, phrase_then, sign}
use Rattle.c_grammar.specs.Symbols.{is_sign, AreAll}
use Rattle.c_grammar.proofs.Options.{neither}
use Rattle.metal_grammar.specs.Written.{Row, lone, row}
use Rattle.metal_grammar.specs.Phrases.{row_phrase, sign_if}
use Rattle.metal_grammar.specs.Clauses.{in_front, ends_here, clauses_from}
use Rattle.metal_grammar.specs.Grammar.{EachIs}
use Rattle.metal_grammar.proofs.Plain.{is_quiet, IsPlain}

-- the symbols of a phrase in front of the first clause
abbrev pub all_in_front : List Symbol → List (List Symbol) → List (List Symbol)
all_in_front [] cs = cs
all_in_front (s ∷ ss) cs = in_front s (all_in_front ss cs)

abbrev pub front : Phrase → List (List Symbol) → List (List Symbol)
front nothing cs = cs
front (one s) cs = in_front s cs
front (all ss) cs = all_in_front ss cs
front (p ⨾ q) cs = front p (front q cs)

all_in_one : (ss c : List Symbol) (cs : List (List Symbol)) → all_in_front ss (c ∷ cs) ≡ (ss ++ c) ∷ cs
all_in_one [] c cs = refl
all_in_one (s ∷ ss) c cs = ap (in_front s) (all_in_one ss c cs)

pub in_one : (p : Phrase) (c : List Symbol) (cs : List (List Symbol)) → front p (c ∷ cs) ≡ phrase_then p c ∷ cs
in_one nothing c cs = refl
in_one (one s) c cs = refl
in_one (all ss) c cs = all_in_one ss c cs
in_one (p ⨾ q) c cs = ap (front p) (in_one q c cs) ∙ in_one p (phrase_then q c) cs

un_not : (b : Bool) → not b ≡ true → b ≡ false
un_not true h = cc
un_not false h = refl

never : (b : Bool) → (b && false) ≡ false
never true = refl
never false = refl

quiet_step : (depth : ℕ) (t : Symbol) (ts : List Symbol) → is_quiet t ≡ true → clauses_from depth (t ∷ ts) ≡ in_front t (clauses_from depth ts)
quiet_step depth t ts h =
    let a = neither (is_sign marks.OpenBrace t || is_sign marks.CloseBrace t) (is_sign marks.Semicolon t) (un_not _ h) in
    let b = neither (is_sign marks.OpenBrace t) (is_sign marks.CloseBrace t) a.0 in
    rw (b.0, b.1, a.1, never (nat_eq depth 1)) refl

quiet_all : (depth : ℕ) (ss ts : List Symbol) → AreAll is_quiet ss → clauses_from depth (ss ++ ts) ≡ all_in_front ss (clauses_from depth ts)
quiet_all depth [] ts w = refl
quiet_all depth (s ∷ ss) ts w = quiet_step depth s (ss ++ ts) w.0 ∙ ap (in_front s) (quiet_all depth ss ts w.1)

-- a plain phrase passes at any depth
pub plain_passes : (p : Phrase) (depth : ℕ) (r : List Symbol) → IsPlain p → clauses_from depth (phrase_then p r) ≡ front p (clauses_from depth r)
plain_passes nothing depth r w = refl
plain_passes (one s) depth r w = quiet_step depth s r w
plain_passes (all ss) depth r w = quiet_all depth ss r w
plain_passes (p ⨾ q) depth r w = plain_passes p depth (phrase_then q r) w.0 ∙ ap (front p) (plain_passes q depth r w.1)

-- A phrase that passes within the machine's braces, and one that passes within further ones.
abbrev pub Passes : Phrase → Type 0
Passes p = (d : ℕ) (r : List Symbol) → clauses_from (suc d) (phrase_then p r) ≡ front p (clauses_from (suc d) r)

abbrev pub PassesInside : Phrase → Type 0
PassesInside p = (d : ℕ) (r : List Symbol) → clauses_from (suc (suc d)) (phrase_then p r) ≡ front p (clauses_from (suc (suc d)) r)

pub plain : (p : Phrase) → IsPlain p → Passes p
plain p w d r = plain_passes p (suc d) r w

pub plain_inside : (p : Phrase) → IsPlain p → PassesInside p
plain_inside p w d r = plain_passes p (suc (suc d)) r w

pub then : (p q : Phrase) → Passes p → Passes q → Passes (p ⨾ q)
then p q a b d r = a d (phrase_then q r) ∙ ap (front p) (b d r)

pub then_inside : (p q : Phrase) → PassesInside p → PassesInside q → PassesInside (p ⨾ q)
then_inside p q a b d r = a d (phrase_then q r) ∙ ap (front p) (b d r)

deep : (d : ℕ) → nat_eq (suc (suc d)) 1 ≡ false
deep d = grind arith

semicolon_inside : PassesInside (sign marks.Semicolon)
semicolon_inside d r = rw (deep d) refl

pub semicolon_if_inside : (b : Bool) → PassesInside (sign_if b (sign marks.Semicolon))
semicolon_if_inside true d r = semicolon_inside d r
semicolon_if_inside false d r = refl

open_step : (d : ℕ) (r : List Symbol) → clauses_from (suc d) (Sign marks.OpenBrace ∷ r) ≡ in_front (Sign marks.OpenBrace) (clauses_from (suc (suc d)) r)
open_step d r = rw (never (nat_eq (suc d) 1)) refl

close_step : (d : ℕ) (r : List Symbol) → clauses_from (suc (suc d)) (Sign marks.CloseBrace ∷ r) ≡ in_front (Sign marks.CloseBrace) (clauses_from (suc d) r)
close_step d r = rw (deep d) refl

-- what passes inside further braces passes with them
pub braced : (p : Phrase) → PassesInside p → Passes (sign marks.OpenBrace ⨾ p ⨾ sign marks.CloseBrace)
braced p a d r =
    open_step d (phrase_then p (Sign marks.CloseBrace ∷ r)) ∙ ap (in_front (Sign marks.OpenBrace)) (a d (Sign marks.CloseBrace ∷ r) ∙ ap (front p) (close_step d r))

pub row_passes : {A : Type 0} (phrase : A → Phrase) (Is : A → Type 0) (between : Punctuator) (xs : Row A)
    → ((x : A) → Is x → Passes (phrase x)) → is_quiet (Sign between) ≡ true → EachIs Is xs → Passes (row_phrase (sign between) phrase xs)
row_passes phrase Is between (lone x) a q w = a x w
row_passes phrase Is between (row x xs) a q w =
    then (phrase x ⨾ sign between) (row_phrase (sign between) phrase xs)
    (then (phrase x) (sign between) (a x w.0) (plain (sign between) q))
    (row_passes phrase Is between xs a q w.1)

-- a `;` behind what passes ends the clause
pub ends_last : (p : Phrase) (r : List Symbol) → Passes p → ends_here r ≡ true → clauses_from 1 (phrase_then p (Sign marks.Semicolon ∷ r)) ≡ phrase_then p (Sign marks.Semicolon ∷ r) ∷ []
ends_last p r a h = a 0 (Sign marks.Semicolon ∷ r) ∙ rw (h) (in_one p (Sign marks.Semicolon ∷ r) [])

pub ends_before : (p : Phrase) (r : List Symbol) → Passes p → ends_here r ≡ false → clauses_from 1 (phrase_then p (Sign marks.Semicolon ∷ r)) ≡ phrase_then p (Sign marks.Semicolon ∷ []) ∷ clauses_from 1 r
ends_before p r a h = a 0 (Sign marks.Semicolon ∷ r) ∙ rw (h) (in_one p (Sign marks.Semicolon ∷ []) (clauses_from 1 r))
