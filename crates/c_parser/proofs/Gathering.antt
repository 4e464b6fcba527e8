-- Labels that are gathered one after the other.
use Rattle.std.proofs.Common.{◌≡◌, ℕ, Bool, true, false, cond, not, ◌||◌, ◌&&◌, nat_eq, List, [], ◌∷◌, ◌++◌, Option, None, Some, ap, refl, sym, ◌∙◌, arith}
use Rattle.std.specs.List.{list_any}
use Rattle.std.proofs.lemmas.List.{append_assoc, append-nil}
use Rattle.c_tree.specs.Syntax.{Syntax}
use Rattle.c_grammar.specs.Found.{◌>>=◌}
use Rattle.c_grammar.specs.UnitGrammar.Control.{has_name, are_different, labels, may_stand, is_controlled}
use Rattle.c_parser.specs.Ways.Gathered.{with_label, gathered, known_if}

pub any_name : (name : ℕ) (names : List ℕ) → list_any (nat_eq name) names ≡ has_name name names
any_name name [] = refl
any_name name (other ∷ names) = ap (λ b. nat_eq name other || b) (any_name name names)

pub gathered-none : (known : List ℕ) → gathered known [] ≡ Some known
unfolding gathered
gathered-none known = refl

pub gathered-one : (known : List ℕ) (name : ℕ) → gathered known (name ∷ []) ≡ cond (has_name name known) None (Some (known ++ (name ∷ [])))
unfolding gathered
gathered-one known name = refl

pub gathered-both : (known names others : List ℕ) → gathered known (names ++ others) ≡ (gathered known names >>= λ k. gathered k others)
unfolding gathered
gathered-both known [] others = refl
gathered-both known (name ∷ names) others = by (has_name name known) (gathered-both (known ++ (name ∷ [])) names others)
  where
    by : (b : Bool) → gathered (known ++ (name ∷ [])) (names ++ others) ≡ (gathered (known ++ (name ∷ [])) names >>= λ k. gathered k others)
        → cond b None (gathered (known ++ (name ∷ [])) (names ++ others)) ≡ (cond b None (gathered (known ++ (name ∷ [])) names) >>= λ k. gathered k others)
    by true e = refl
    by false e = e

-- one label is added
pub gathered-added : (known new : List ℕ) (name : ℕ) (fresh : Bool) → fresh ≡ not (has_name name known) → new ≡ with_label known name fresh → gathered known (name ∷ []) ≡ known_if fresh new
gathered-added known new name fresh f n = gathered-one known name ∙ by (has_name name known) fresh f ∙ ap (known_if fresh) (sym n)
  where
    by : (h fresh : Bool) → fresh ≡ not h → cond h None (Some (known ++ (name ∷ []))) ≡ known_if fresh (with_label known name fresh)
    by true fresh f = rw f refl
    by false fresh f = rw f refl

-- none of these is known
unfoldable apart : List ℕ → List ℕ → Bool
apart [] known = true
apart (name ∷ names) known = not (has_name name known) && apart names known

same_sym : (a b : ℕ) → nat_eq a b ≡ nat_eq b a
same_sym a b = grind arith

has_name-push : (name last : ℕ) (known : List ℕ) → has_name name (known ++ (last ∷ [])) ≡ (has_name name known || nat_eq name last)
has_name-push name last [] = by (nat_eq name last)
  where
    by : (b : Bool) → (b || false) ≡ b
    by true = refl
    by false = refl
has_name-push name last (other ∷ known) = by (nat_eq name other) (has_name-push name last known)
  where
    by : (b : Bool) → has_name name (known ++ (last ∷ [])) ≡ (has_name name known || nat_eq name last)
        → (b || has_name name (known ++ (last ∷ []))) ≡ ((b || has_name name known) || nat_eq name last)
    by true e = refl
    by false e = e

-- apart from one more, if it is none of them
apart-push : (names known : List ℕ) (last : ℕ) → apart names (known ++ (last ∷ [])) ≡ (apart names known && not (has_name last names))
unfolding apart
apart-push [] known last = refl
apart-push (name ∷ names) known last =
    ap (λ b. not b && apart names (known ++ (last ∷ []))) (has_name-push name last known)
    ∙ ap (λ b. not (has_name name known || nat_eq name last) && b) (apart-push names known last)
    ∙ ap (λ b. not (has_name name known || b) && (apart names known && not (has_name last names))) (same_sym name last)
    ∙ by (has_name name known) (nat_eq last name) (apart names known) (has_name last names)
  where
    by : (a b c d : Bool) → (not (a || b) && (c && not d)) ≡ ((not a && c) && not (b || d))
    by true b c d = refl
    by false true true d = refl
    by false true false d = refl
    by false false c d = refl

apart-none : (names : List ℕ) → apart names [] ≡ true
unfolding apart
apart-none [] = refl
apart-none (name ∷ names) = apart-none names

gathered-all : (known names : List ℕ) → gathered known names ≡ cond (are_different names && apart names known) (Some (known ++ names)) None
unfolding gathered are_different apart
gathered-all known [] = ap Some (sym (append-nil known))
gathered-all known (name ∷ names) =
    ap (cond (has_name name known) None) (gathered-all (known ++ (name ∷ [])) names)
    ∙ ap (λ b. cond (has_name name known) None (cond (are_different names && b) (Some ((known ++ (name ∷ [])) ++ names)) None)) (apart-push names known name)
    ∙ ap (λ ns. cond (has_name name known) None (cond (are_different names && (apart names known && not (has_name name names))) (Some ns) None)) (append_assoc known (name ∷ []) names)
    ∙ by (has_name name known) (are_different names) (apart names known) (has_name name names) (known ++ (name ∷ names))
  where
    by : (a b c d : Bool) (all : List ℕ) → cond a None (cond (b && (c && not d)) (Some all) None) ≡ cond ((not d && b) && (not a && c)) (Some all) None
    by true true c true all = refl
    by true true c false all = refl
    by true false c true all = refl
    by true false c false all = refl
    by false true true true all = refl
    by false true true false all = refl
    by false true false true all = refl
    by false true false false all = refl
    by false false c true all = refl
    by false false c false all = refl

different : (b : Bool) (all : List ℕ) (fresh : Bool) (new : List ℕ) → cond b (Some all) None ≡ known_if fresh new → (b ≡ fresh) × (fresh ≡ true → new ≡ all)
different true all true new h = grind arith
different true all false new h = grind arith
different false all true new h = grind arith
different false all false new h = grind arith

-- the labels of a function's body
pub all_gathered : (names : List ℕ) (fresh : Bool) (new : List ℕ) → gathered [] names ≡ known_if fresh new → (are_different names ≡ fresh) × (fresh ≡ true → new ≡ names)
all_gathered names fresh new h = different (are_different names) names fresh new (sym (gathered-all [] names ∙ ap (λ b. cond b (Some names) None) (ap (λ b. are_different names && b) (apart-none names) ∙ by (are_different names))) ∙ h)
  where
    by : (b : Bool) → (b && true) ≡ b
    by true = refl
    by false = refl

-- a label that stands twice
pub uncontrolled : (body : Syntax) (start : List ℕ) (fresh : Bool) (new : List ℕ) → gathered start (labels body) ≡ known_if fresh new → start ≡ [] → fresh ≡ false → false ≡ is_controlled body
uncontrolled body start fresh new g s f =
    let d = all_gathered (labels body) fresh new (ap (λ k. gathered k (labels body)) (sym s) ∙ g) in
    sym (ap (λ b. b && may_stand (record { loop = false; switch = false; known = labels body }) body) (d.0 ∙ f))

-- no label that stands twice
pub controlled : (body : Syntax) (start : List ℕ) (fresh : Bool) (new : List ℕ) → gathered start (labels body) ≡ known_if fresh new → start ≡ [] → fresh ≡ true
    → may_stand (record { loop = false; switch = false; known = new }) body ≡ is_controlled body
controlled body start fresh new g s f =
    let d = all_gathered (labels body) fresh new (ap (λ k. gathered k (labels body)) (sym s) ∙ g) in
    ap (λ k. may_stand (record { loop = false; switch = false; known = k }) body) (d.1 f)
    ∙ sym (ap (λ b. b && may_stand (record { loop = false; switch = false; known = labels body }) body) (d.0 ∙ f))

pub ruleset known_names = (any_name)

pub ruleset gathers = (gathered-none, gathered-added, gathered-both)
