-- Where clauses are cut, one token after the other.
use Rattle.std.proofs.Common.{◌≡◌, ℕ, ◌&&◌, nat_eq, zero, suc, ◌+◌, ◌<◌, Bool, true, false, List, [], ◌∷◌, ◌++◌, length, get_or, take, drop, ap, refl, ◌∙◌, sym, subst, add-one, arith}
use Rattle.std.proofs.lemmas.Bool.Decides.{nat_tests}
use Rattle.c_tree.specs.declared.punctuator.Punctuator.TheVariants as marks
use Rattle.c_tree.specs.declared.token.Token.{Token}
use Rattle.c_tree.specs.Symbol.{Symbol, symbol_of, symbols_of}
use Rattle.c_grammar.specs.Symbols.{is_sign}
use Rattle.c_grammar.proofs.Front.{is_sign-true}
use Rattle.metal_grammar.specs.Clauses.{in_front, closes, ends_clause, ends_here, open_behind, clauses_from}
use Rattle.metal_clauses.specs.Cuts.{others_in}

-- all of these in front of the first clause
abbrev pub all_in_front : List Symbol → List (List Symbol) → List (List Symbol)
all_in_front [] cs = cs
all_in_front (t ∷ ts) cs = in_front t (all_in_front ts cs)

pub front-clause : (xs ys : List Symbol) (cs : List (List Symbol)) → all_in_front xs (ys ∷ cs) ≡ (xs ++ ys) ∷ cs
front-clause [] ys cs = refl
front-clause (x ∷ xs) ys cs = ap (in_front x) (front-clause xs ys cs)

-- the clauses of tokens of which the first i were passed
abbrev pub clauses_at : ℕ → List Token → ℕ → List (List Symbol)
clauses_at braces ts i = all_in_front (symbols_of (take i ts)) (clauses_from braces (symbols_of (drop i ts)))

pub cut-next : (braces : ℕ) (ts : List Token) (i : ℕ) (d : Token) (whole : List (List Symbol)) → i < length ts
    → closes braces (symbol_of (get_or ts i d)) ≡ false → ends_clause braces (symbol_of (get_or ts i d)) ≡ false
    → clauses_at braces ts i ≡ whole → clauses_at (open_behind braces (symbol_of (get_or ts i d))) ts (i + 1) ≡ whole
cut-next braces ts i d whole h c e w = ap (clauses_at (open_behind braces (symbol_of (get_or ts i d))) ts) (add-one i) ∙ step braces ts i d h c e ∙ w
  where
    step : (braces : ℕ) (ts : List Token) (i : ℕ) (d : Token) → i < length ts
        → closes braces (symbol_of (get_or ts i d)) ≡ false → ends_clause braces (symbol_of (get_or ts i d)) ≡ false
        → clauses_at (open_behind braces (symbol_of (get_or ts i d))) ts (suc i) ≡ clauses_at braces ts i
    step braces [] i d h c e = absurd (omega arith)
    step braces (t ∷ ts) zero d h c e = rw (c, e) refl
    step braces (t ∷ ts) (suc i) d h c e = ap (in_front (symbol_of t)) (step braces ts i d (omega arith) c e)

-- all tokens are the one clause
abbrev pub IsCutAt : ℕ → List Token → List (List Symbol) → Type 0
IsCutAt at ts whole = whole ≡ symbols_of (take at ts) ∷ others_in (symbols_of (drop at ts))

cut-all : (ts : List Token) → symbols_of (take (length ts) ts) ≡ symbols_of ts
cut-all [] = refl
cut-all (t ∷ ts) = ap (λ x. symbol_of t ∷ x) (cut-all ts)

cut-none : (ts : List Token) → symbols_of (drop (length ts) ts) ≡ []
cut-none [] = refl
cut-none (t ∷ ts) = cut-none ts

pub cut-whole : (ts : List Token) (whole : List (List Symbol)) → whole ≡ symbols_of ts ∷ [] → IsCutAt (length ts) ts whole
cut-whole ts whole h = h ∙ ap (λ x. x ∷ []) (sym (cut-all ts)) ∙ ap (λ x. symbols_of (take (length ts) ts) ∷ others_in x) (sym (cut-none ts))

halves : (ts : List Token) (i : ℕ) → symbols_of (take i ts) ++ symbols_of (drop i ts) ≡ symbols_of ts
halves [] zero = refl
halves [] (suc i) = refl
halves (t ∷ ts) zero = refl
halves (t ∷ ts) (suc i) = ap (λ x. symbol_of t ∷ x) (halves ts i)

-- the clause in front of which all of these stand is the last
pub cut-last : (braces : ℕ) (ts : List Token) (i : ℕ) (whole : List (List Symbol)) → clauses_from braces (symbols_of (drop i ts)) ≡ symbols_of (drop i ts) ∷ []
    → clauses_at braces ts i ≡ whole → IsCutAt (length ts) ts whole
cut-last braces ts i whole h w =
    cut-whole ts whole (sym w ∙ ap (all_in_front (symbols_of (take i ts))) h ∙ front-clause (symbols_of (take i ts)) (symbols_of (drop i ts)) [] ∙ ap (λ x. x ∷ []) (halves ts i))

closed : (braces : ℕ) (ts : List Token) (i : ℕ) (d : Token) → i < length ts → closes braces (symbol_of (get_or ts i d)) ≡ true
    → clauses_from braces (symbols_of (drop i ts)) ≡ symbols_of (drop i ts) ∷ []
closed braces [] i d h c = absurd (omega arith)
closed braces (t ∷ ts) zero d h c = rw c refl
closed braces (t ∷ ts) (suc i) d h c = closed braces ts i d (omega arith) c

-- the machine's closing brace stands here
pub cut-closed : (braces : ℕ) (ts : List Token) (i : ℕ) (d : Token) (whole : List (List Symbol)) → i < length ts
    → closes braces (symbol_of (get_or ts i d)) ≡ true → clauses_at braces ts i ≡ whole → IsCutAt (length ts) ts whole
cut-closed braces ts i d whole h c w = cut-last braces ts i whole (closed braces ts i d h c) w

ended : (braces : ℕ) (ts : List Token) (i : ℕ) (d : Token) → i < length ts → closes braces (symbol_of (get_or ts i d)) ≡ false
    → ends_clause braces (symbol_of (get_or ts i d)) ≡ true → ends_here (symbols_of (drop (suc i) ts)) ≡ true
    → clauses_from braces (symbols_of (drop i ts)) ≡ symbols_of (drop i ts) ∷ []
ended braces [] i d h c e n = absurd (omega arith)
ended braces (t ∷ ts) zero d h c e n = rw (c, e, n) refl
ended braces (t ∷ ts) (suc i) d h c e n = ended braces ts i d (omega arith) c e n

-- the last clause ends here
pub cut-ended : (braces : ℕ) (ts : List Token) (i : ℕ) (d : Token) (whole : List (List Symbol)) → i < length ts
    → closes braces (symbol_of (get_or ts i d)) ≡ false → ends_clause braces (symbol_of (get_or ts i d)) ≡ true → ends_here (symbols_of (drop (i + 1) ts)) ≡ true
    → clauses_at braces ts i ≡ whole → IsCutAt (length ts) ts whole
cut-ended braces ts i d whole h c e n w =
    cut-last braces ts i whole (ended braces ts i d h c e (ap (λ j. ends_here (symbols_of (drop j ts))) (sym (add-one i)) ∙ n)) w

-- no token is left
pub cut-over : (braces : ℕ) (ts : List Token) (i : ℕ) (whole : List (List Symbol)) → i ≡ length ts → clauses_at braces ts i ≡ whole → IsCutAt i ts whole
cut-over braces ts i whole h w =
    subst (λ j. IsCutAt j ts whole) (sym h)
    (cut-whole ts whole (sym w ∙ ap (λ j. clauses_at braces ts j) h ∙ ap (λ x. all_in_front (symbols_of (take (length ts) ts)) (clauses_from braces x)) (cut-none ts)
    ∙ front-clause (symbols_of (take (length ts) ts)) [] [] ∙ ap (λ x. x ∷ []) (append-none (symbols_of (take (length ts) ts)) ∙ cut-all ts)))
  where
    append-none : (xs : List Symbol) → xs ++ [] ≡ xs
    append-none [] = refl
    append-none (x ∷ xs) = ap (λ y. x ∷ y) (append-none xs)

parted : (a b : Bool) → a && b ≡ true → (a ≡ true) × (b ≡ true)
parted true b h = (refl, h)
parted false b h = (h, cc)

one : (braces : ℕ) → nat_eq braces 1 ≡ true → braces ≡ 1
one braces h = grind (arith, nat_tests)

behind_end : (braces : ℕ) (t : Symbol) → ends_clause braces t ≡ true → open_behind braces t ≡ 1
behind_end braces t h =
    let p = parted (nat_eq braces 1) (is_sign marks.Semicolon t) h in
    ap (λ s. open_behind braces s) (is_sign-true marks.Semicolon t p.1) ∙ one braces p.0

others : (ts : List Symbol) → ends_here ts ≡ false → clauses_from 1 ts ≡ others_in ts
others [] h = cc
others (t ∷ ts) h = refl

between : (braces : ℕ) (ts : List Token) (i : ℕ) (d : Token) → i < length ts → closes braces (symbol_of (get_or ts i d)) ≡ false
    → ends_clause braces (symbol_of (get_or ts i d)) ≡ true → ends_here (symbols_of (drop (suc i) ts)) ≡ false
    → clauses_at braces ts i ≡ symbols_of (take (suc i) ts) ∷ others_in (symbols_of (drop (suc i) ts))
between braces [] i d h c e n = absurd (omega arith)
between braces (t ∷ ts) zero d h c e n = rw (c, e, n) (ap (λ k. (symbol_of t ∷ []) ∷ clauses_from k (symbols_of ts)) (behind_end braces (symbol_of t) e) ∙ ap (λ x. (symbol_of t ∷ []) ∷ x) (others (symbols_of ts) n))
between braces (t ∷ ts) (suc i) d h c e n = ap (in_front (symbol_of t)) (between braces ts i d (omega arith) c e n)

-- a clause ends here, and others follow
pub cut-between : (braces : ℕ) (ts : List Token) (i : ℕ) (d : Token) (whole : List (List Symbol)) → i < length ts → closes braces (symbol_of (get_or ts i d)) ≡ false
    → ends_clause braces (symbol_of (get_or ts i d)) ≡ true → ends_here (symbols_of (drop (i + 1) ts)) ≡ false → clauses_at braces ts i ≡ whole → IsCutAt (i + 1) ts whole
cut-between braces ts i d whole h c e n w =
    subst (λ j. IsCutAt j ts whole) (sym (add-one i)) (sym w ∙ between braces ts i d h c e (ap (λ j. ends_here (symbols_of (drop j ts))) (sym (add-one i)) ∙ n))

pub ruleset cuts = (cut-next, cut-closed, cut-ended, cut-over, cut-between)
