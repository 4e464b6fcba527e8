-- The states that a text mentions have numbers in range.
use Rattle.std.proofs.Common.{◌≡◌, ◌⊎◌, inl, inr, ℕ, ◌+◌, ◌<◌, Bool, true, false, cond, not, nat_eq, nat_lt, ◌||◌, ◌&&◌, List, [], ◌∷◌, ◌++◌, length, filter, filter_map, Option, None, Some, ap, refl, ◌∙◌, sym, subst, arith}
use Rattle.std.specs.List.{cons_option}
use Rattle.std.proofs.lemmas.Bool.Decides.{nat_tests}
use Rattle.metal_grammar.specs.Words.{Spelling}
use Rattle.metal_grammar.specs.Written.{StateName, OfMachine, OfVariable}
use Rattle.metal_grammar.specs.Meaning.{distinct, number_in, is_start, global_name, name_for, globals_among, states_among, Numbering, global_number, state_number, states_mentioned}
use Rattle.metal_grammar.specs.Rules.{is_among, targets_of, PlacedRule}
use Rattle.metal_grammar.specs.Faults.{is_stop}
use Rattle.metal_grammar.proofs.Numbered.{equal, same, right, stands}

-- one of these
abbrev pub OneOf : {A : Type 0} → A → List A → Type 0
OneOf x [] = ⊥
OneOf x (y ∷ ys) = (y ≡ x) ⊎ OneOf x ys

pub in_first : {A : Type 0} (x : A) (xs ys : List A) → OneOf x xs → OneOf x (xs ++ ys)
in_first x [] ys w = absurd w
in_first x (z ∷ zs) ys (inl e) = inl e
in_first x (z ∷ zs) ys (inr w) = inr (in_first x zs ys w)

pub in_second : {A : Type 0} (x : A) (xs ys : List A) → OneOf x ys → OneOf x (xs ++ ys)
in_second x [] ys w = w
in_second x (z ∷ zs) ys w = inr (in_second x zs ys w)

among-cons : (o : Option ℕ) (ns : List ℕ) (n : ℕ) → is_among ns n ≡ true → is_among (cons_option o ns) n ≡ true
among-cons None ns n h = h
among-cons (Some m) ns n h = right (nat_eq m n) _ h

among-found : {A : Type 0} (f : A → Option ℕ) (xs : List A) (x : A) (n : ℕ) → OneOf x xs → f x ≡ Some n → is_among (filter_map f xs) n ≡ true
among-found f [] x n w e = absurd w
among-found f (y ∷ ys) x n (inl q) e =
    let s : f y ≡ Some n = ap f q ∙ e in
    ap (λ o. is_among (cons_option o (filter_map f ys)) n) s ∙ ap (λ b. b || is_among (filter_map f ys) n) (same n n refl)
among-found f (y ∷ ys) x n (inr w) e = among-cons (f y) (filter_map f ys) n (among-found f ys x n w e)

kept_by : (m : ℕ) (ns : List ℕ) (n : ℕ) → nat_eq m n ≡ false → is_among ns n ≡ true → is_among (filter (λ k. not (nat_eq k m)) ns) n ≡ true
kept_by m [] n d h = cc
kept_by m (k ∷ ks) n d h = by (nat_eq k n) (nat_eq k m) refl refl (kept_by m ks n d) h
  where
    by : (b c : Bool) → nat_eq k n ≡ b → nat_eq k m ≡ c → (is_among ks n ≡ true → is_among (filter (λ k. not (nat_eq k m)) ks) n ≡ true) → (b || is_among ks n) ≡ true
        → is_among (cond (not c) (k ∷ filter (λ k. not (nat_eq k m)) ks) (filter (λ k. not (nat_eq k m)) ks)) n ≡ true
    by true true p q f w = let e : m ≡ n = sym (equal k m q) ∙ equal k n p in let t : nat_eq m n ≡ true = same m n e in cc
    by true false p q f w = ap (λ b. b || is_among (filter (λ k. not (nat_eq k m)) ks) n) p
    by false true p q f w = f w
    by false false p q f w = right (nat_eq k n) _ (f w)

among-distinct : (ns : List ℕ) (n : ℕ) → is_among ns n ≡ true → is_among (distinct ns) n ≡ true
among-distinct [] n h = h
among-distinct (m ∷ ms) n h = by (nat_eq m n) refl (among-distinct ms n) h
  where
    by : (b : Bool) → nat_eq m n ≡ b → (is_among ms n ≡ true → is_among (distinct ms) n ≡ true) → (b || is_among ms n) ≡ true → (b || is_among (filter (λ k. not (nat_eq k m)) (distinct ms)) n) ≡ true
    by true e f w = refl
    by false e f w = kept_by m (distinct ms) n e (f w)

global_found : (spelling : Spelling) (states : List StateName) (name : ℕ) → OneOf (OfMachine name) states → is_start spelling name ≡ false → is_stop spelling (OfMachine name) ≡ false
    → is_among (globals_among spelling states) name ≡ true
global_found spelling states name w p q =
    among-distinct (filter_map (global_name spelling) states) name (among-found (global_name spelling) states (OfMachine name) name w
    (ap (λ b. cond (b || is_stop spelling (OfMachine name)) None (Some name)) p ∙ ap (λ b. cond b None (Some name)) q))

below_two : (k l : ℕ) → k < l → nat_lt (k + 2) (l + 2) ≡ true
below_two k l h = grind (arith, nat_tests)

zero_below : (l : ℕ) → nat_lt 0 (l + 2) ≡ true
zero_below l = grind (arith, nat_tests)

one_below : (l : ℕ) → nat_lt 1 (l + 2) ≡ true
one_below l = grind (arith, nat_tests)

pub lower : (k l : ℕ) → k < l → nat_lt k l ≡ true
lower k l h = grind (arith, nat_tests)

-- the number of a mentioned state of the machine
pub global_below : (n : Numbering) (name : ℕ) → OneOf (OfMachine name) n.states → nat_lt (global_number n name) (length (globals_among n.spelling n.states) + 2) ≡ true
global_below n name w = by (is_start n.spelling name) (is_stop n.spelling (OfMachine name)) refl refl
  where
    by : (a b : Bool) → is_start n.spelling name ≡ a → is_stop n.spelling (OfMachine name) ≡ b
        → nat_lt (cond a 0 (cond b 1 (number_in (globals_among n.spelling n.states) name + 2))) (length (globals_among n.spelling n.states) + 2) ≡ true
    by true b p q = zero_below (length (globals_among n.spelling n.states))
    by false true p q = one_below (length (globals_among n.spelling n.states))
    by false false p q =
        below_two (number_in (globals_among n.spelling n.states) name) (length (globals_among n.spelling n.states))
        (stands (globals_among n.spelling n.states) name (global_found n.spelling n.states name w p q)).below

-- the number of a mentioned state of a variable
pub state_below : (n : Numbering) (variable name : ℕ) → OneOf (OfVariable variable name) n.states → is_stop n.spelling (OfVariable variable name) ≡ false
    → nat_lt (state_number n variable name) (length (states_among n.spelling n.states variable)) ≡ true
state_below n variable name w q =
    let f : name_for n.spelling variable (OfVariable variable name) ≡ Some name =
    ap (λ b. cond (b && not (is_stop n.spelling (OfVariable variable name))) (Some name) None) (same variable variable refl) ∙ ap (λ b. cond (not b) (Some name) None) q in
    let a = among-distinct (filter_map (name_for n.spelling variable) n.states) name (among-found (name_for n.spelling variable) n.states (OfVariable variable name) name w f) in
    lower (state_number n variable name) (length (states_among n.spelling n.states variable)) (stands (states_among n.spelling n.states variable) name a).below

-- the states of a rule are mentioned
pub of_rule : (rs : List PlacedRule) (r : PlacedRule) (s : StateName) → OneOf r rs → OneOf s (r.source ∷ targets_of r.rule.destination) → OneOf s (states_mentioned rs)
of_rule [] r s w v = absurd w
of_rule (q ∷ qs) r s (inl e) v =
    in_first s (q.source ∷ targets_of q.rule.destination) (states_mentioned qs) (subst (λ p. OneOf s (p.source ∷ targets_of p.rule.destination)) (sym e) v)
of_rule (q ∷ qs) r s (inr w) v = in_second s (q.source ∷ targets_of q.rule.destination) (states_mentioned qs) (of_rule qs r s w v)
