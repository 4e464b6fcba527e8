-- The position of a name among others, and of a text among names.
use Rattle.std.proofs.Common.{◌≡◌, ℕ, suc, ◌+◌, ◌<◌, ◌≤◌, Bool, true, false, cond, nat_eq, ◌||◌, List, [], ◌∷◌, length, get_or, drop, Option, None, Some, is_some, ap, refl, ◌∙◌, sym, add-one, drop-cons, arith}
use Rattle.std.proofs.lemmas.Bool.Decides.{nat_tests}
use Rattle.std.proofs.lemmas.List.{drop_all}
use Rattle.metal_grammar.specs.Meaning.{number_among, one_more}
use Rattle.metal_grammar.specs.Rules.{is_among}

-- a position behind so many
abbrev pub shifted : ℕ → Option ℕ → Option ℕ
shifted i None = None
shifted i (Some k) = Some (k + i)

shift-more : (i : ℕ) (o : Option ℕ) → shifted (suc i) o ≡ shifted i (one_more o)
shift-more i None = refl
shift-more i (Some k) = let e : k + suc i ≡ k + 1 + i = omega arith in ap Some e

differs : (m n : ℕ) → (m ≡ n → ⊥) → nat_eq m n ≡ false
differs m n h = grind (arith, nat_tests)

same : (m n : ℕ) → m ≡ n → nat_eq m n ≡ true
same m n h = grind (arith, nat_tests)

pub shift-start : (o : Option ℕ) → shifted 0 o ≡ o
shift-start None = refl
shift-start (Some k) = let e : k + 0 ≡ k = omega arith in ap Some e

pub shift-next : (names : List ℕ) (i name : ℕ) → i < length names → (get_or names i 0 ≡ name → ⊥) → shifted (i + 1) (number_among (drop (i + 1) names) name) ≡ shifted i (number_among (drop i names) name)
shift-next names i name h n =
    ap (λ j. shifted j (number_among (drop j names) name)) (add-one i)
    ∙ shift-more i (number_among (drop (suc i) names) name)
    ∙ sym (ap (λ xs. shifted i (number_among xs name)) (drop-cons names i 0 h)
    ∙ ap (λ b. shifted i (cond b (Some 0) (one_more (number_among (drop (suc i) names) name)))) (differs (get_or names i 0) name n))

pub shift-here : (names : List ℕ) (i name : ℕ) → i < length names → get_or names i 0 ≡ name → shifted i (number_among (drop i names) name) ≡ Some i
shift-here names i name h n =
    ap (λ xs. shifted i (number_among xs name)) (drop-cons names i 0 h)
    ∙ ap (λ b. shifted i (cond b (Some 0) (one_more (number_among (drop (suc i) names) name)))) (same (get_or names i 0) name n)
    ∙ (let e : 0 + i ≡ i = omega arith in ap Some e)

pub shift-over : (names : List ℕ) (i name : ℕ) → length names ≤ i → shifted i (number_among (drop i names) name) ≡ None
shift-over names i name h = ap (λ xs. shifted i (number_among xs name)) (drop_all i names h)

pub ruleset positions = (shift-start, shift-next, shift-here, shift-over)

-- a position is below the number of names
pub within : (names : List ℕ) (name k : ℕ) → number_among names name ≡ Some k → k < length names
within [] name k h = cc
within (n ∷ ns) name k h = by (nat_eq n name) (number_among ns name) (within ns name) h
  where
    by : (b : Bool) (o : Option ℕ) → ((j : ℕ) → o ≡ Some j → j < length ns) → cond b (Some 0) (one_more o) ≡ Some k → k < suc (length ns)
    by true o w e = let z : 0 ≡ k = cc in omega arith
    by false None w e = cc
    by false (Some j) w e = let z : j + 1 ≡ k = cc in let l = w j refl in omega arith

-- a name that has no position isn't among them
pub among-none : (names : List ℕ) (name : ℕ) → number_among names name ≡ None → is_among names name ≡ false
among-none [] name h = refl
among-none (n ∷ ns) name h = by (nat_eq n name) (number_among ns name) (among-none ns name) h
  where
    by : (b : Bool) (o : Option ℕ) → (o ≡ None → is_among ns name ≡ false) → cond b (Some 0) (one_more o) ≡ None → (b || is_among ns name) ≡ false
    by true o w e = cc
    by false None w e = w refl
    by false (Some j) w e = cc

pub among-some : (names : List ℕ) (name k : ℕ) → number_among names name ≡ Some k → is_among names name ≡ true
among-some [] name k h = cc
among-some (n ∷ ns) name k h = by (nat_eq n name) (number_among ns name) (among-some ns name) h
  where
    by : (b : Bool) (o : Option ℕ) → ((j : ℕ) → o ≡ Some j → is_among ns name ≡ true) → cond b (Some 0) (one_more o) ≡ Some k → (b || is_among ns name) ≡ true
    by true o w e = refl
    by false None w e = cc
    by false (Some j) w e = w j refl

pub ruleset among = (among-none, among-some)

-- a name has a position where it is among them
pub counted : (names : List ℕ) (name : ℕ) → is_some (number_among names name) ≡ is_among names name
counted [] name = refl
counted (n ∷ ns) name = by (nat_eq n name) (number_among ns name) (counted ns name)
  where
    by : (b : Bool) (o : Option ℕ) → is_some o ≡ is_among ns name → is_some (cond b (Some 0) (one_more o)) ≡ (b || is_among ns name)
    by true o e = refl
    by false None e = e
    by false (Some j) e = e
