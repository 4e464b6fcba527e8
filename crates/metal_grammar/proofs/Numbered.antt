-- Numbers of names among others, and lists of names against lists of their numbers.
use Rattle.std.proofs.Common.{◌≡◌, ℕ, suc, ◌+◌, ◌<◌, ◌≤◌, Bool, true, false, cond, not, nat_eq, nat_lt, ◌||◌, ◌&&◌, List, [], ◌∷◌, ◌++◌, length, get_or, map, filter, filter_map, unwrap_or, Option, None, Some, ap, refl, ◌∙◌, sym, subst, add-one, arith}
use Rattle.std.specs.List.{cons_option}
use Rattle.std.proofs.lemmas.Bool.Decides.{nat_tests}
use Rattle.metal_tree.specs.MetalMachines.Kept as kept
use Rattle.metal_tree.specs.MetalMachines.Kept.{all_of, are_one}
use Rattle.metal_grammar.specs.Meaning.{number_among, number_in, one_more}
use Rattle.metal_grammar.specs.Rules.{is_among}
use Rattle.metal_grammar.specs.Faults.{is_other_among, differ}
use Rattle.metal_grammar.proofs.HolesNumbered.{both}

pub equal : (m n : ℕ) → nat_eq m n ≡ true → m ≡ n
equal m n h = grind (arith, nat_tests)

pub same : (m n : ℕ) → m ≡ n → nat_eq m n ≡ true
same m n h = grind (arith, nat_tests)

pub differs : (m n : ℕ) → (m ≡ n → ⊥) → nat_eq m n ≡ false
differs m n h = grind (arith, nat_tests)

below : (m n : ℕ) → m < n → nat_lt m n ≡ true
below m n h = grind (arith, nat_tests)

not_below : (m n : ℕ) → n ≤ m → nat_lt m n ≡ false
not_below m n h = grind (arith, nat_tests)

pub either : (a b : Bool) → (a || b) ≡ false → (a ≡ false) × (b ≡ false)
either true b h = cc
either false b h = (refl, h)

pub right : (a b : Bool) → b ≡ true → (a || b) ≡ true
right true b h = refl
right false b h = h

-- a name stands there, and nowhere before
pub record Stands (ns : List ℕ) (x k : ℕ) : Type 0 where
  pub number : number_among ns x ≡ Some k
  pub below : k < length ns
  pub here : get_or ns k 0 ≡ x

pub locate : (ns : List ℕ) (x : ℕ) → is_among ns x ≡ true → (k : ℕ) × Stands ns x k
locate [] x h = cc
locate (n ∷ ns) x h = by (nat_eq n x) refl (locate ns x) h
  where
    later : nat_eq n x ≡ false → (k : ℕ) × Stands ns x k → (k : ℕ) × Stands (n ∷ ns) x k
    later e (k, s) = (
      k + 1,
      record {
        number = ap (λ b. cond b (Some 0) (one_more (number_among ns x))) e ∙ ap one_more s.number;
        below = let l = s.below in omega arith;
        here = ap (λ j. get_or (n ∷ ns) j 0) (add-one k) ∙ s.here;
      },
    )

    by : (b : Bool) → nat_eq n x ≡ b → (is_among ns x ≡ true → (k : ℕ) × Stands ns x k) → (b || is_among ns x) ≡ true → (k : ℕ) × Stands (n ∷ ns) x k
    by true e f w = (0, record { number = ap (λ b. cond b (Some 0) (one_more (number_among ns x))) e; below = omega arith; here = equal n x e })
    by false e f w = later e (f w)

pub stands : (ns : List ℕ) (x : ℕ) → is_among ns x ≡ true → Stands ns x (number_in ns x)
stands ns x h = by (locate ns x h)
  where
    by : (k : ℕ) × Stands ns x k → Stands ns x (number_in ns x)
    by (k, s) = let e : k ≡ number_in ns x = sym (ap (λ o. unwrap_or o 0) s.number) in subst (Stands ns x) e s

pub nowhere : (ns : List ℕ) (x : ℕ) → is_among ns x ≡ false → number_among ns x ≡ None
nowhere [] x h = refl
nowhere (n ∷ ns) x h =
    let b = either (nat_eq n x) (is_among ns x) h in
    ap (λ b. cond b (Some 0) (one_more (number_among ns x))) b.0 ∙ ap one_more (nowhere ns x b.1)

-- the names in front keep their numbers, and no other name has one of these
pub in_front : (vs ws : List ℕ) (x : ℕ) → is_among vs x ≡ true → number_among (vs ++ ws) x ≡ number_among vs x
in_front [] ws x h = cc
in_front (v ∷ vs) ws x h = by (nat_eq v x) (in_front vs ws x) h
  where
    by : (b : Bool) → (is_among vs x ≡ true → number_among (vs ++ ws) x ≡ number_among vs x) → (b || is_among vs x) ≡ true
        → cond b (Some 0) (one_more (number_among (vs ++ ws) x)) ≡ cond b (Some 0) (one_more (number_among vs x))
    by true f w = refl
    by false f w = ap one_more (f w)

pub front_below : (vs ws : List ℕ) (x : ℕ) → is_among vs x ≡ true → number_in (vs ++ ws) x < length vs
front_below vs ws x h =
    let e : number_in (vs ++ ws) x ≡ number_in vs x = ap (λ o. unwrap_or o 0) (in_front vs ws x h) in
    let l = (stands vs x h).below in
    omega arith

pub behind_front : (vs ws : List ℕ) (x k : ℕ) → is_among vs x ≡ false → number_among (vs ++ ws) x ≡ Some k → length vs ≤ k
behind_front [] ws x k h e = omega arith
behind_front (v ∷ vs) ws x k h e =
    let b = either (nat_eq v x) (is_among vs x) h in
    let c : one_more (number_among (vs ++ ws) x) ≡ Some k = sym (ap (λ b. cond b (Some 0) (one_more (number_among (vs ++ ws) x))) b.0) ∙ e in
    by (number_among (vs ++ ws) x) (λ j. behind_front vs ws x j b.1) c
  where
    by : (o : Option ℕ) → ((j : ℕ) → o ≡ Some j → length vs ≤ j) → one_more o ≡ Some k → suc (length vs) ≤ k
    by None f e = cc
    by (Some j) f e = let z : j + 1 ≡ k = cc in let l = f j refl in omega arith

-- a name is one of those in front just where its number is below theirs
pub is_front : (vs ws : List ℕ) (x : ℕ) → is_among (vs ++ ws) x ≡ true → nat_lt (number_in (vs ++ ws) x) (length vs) ≡ is_among vs x
is_front vs ws x h = by (is_among vs x) refl
  where
    by : (b : Bool) → is_among vs x ≡ b → nat_lt (number_in (vs ++ ws) x) (length vs) ≡ b
    by true e = below (number_in (vs ++ ws) x) (length vs) (front_below vs ws x e)
    by false e = not_below (number_in (vs ++ ws) x) (length vs) (behind_front vs ws x (number_in (vs ++ ws) x) e (stands (vs ++ ws) x h).number)

-- two names that stand there and have one number are one
pub one_name : (ns : List ℕ) (x y : ℕ) → is_among ns x ≡ true → is_among ns y ≡ true → number_in ns x ≡ number_in ns y → x ≡ y
one_name ns x y h g e = sym (stands ns x h).here ∙ ap (λ k. get_or ns k 0) e ∙ (stands ns y g).here

-- all of these stand there
abbrev pub Within : List ℕ → List ℕ → Type 0
Within ns xs = all_of (is_among ns) xs ≡ true

pub numbers_below : (ns xs : List ℕ) → Within ns xs → all_of (λ k. nat_lt k (length ns)) (map (number_in ns) xs) ≡ true
numbers_below ns [] h = refl
numbers_below ns (x ∷ xs) h =
    let b = both (is_among ns x) (all_of (is_among ns) xs) h in
    ap (λ c. c && all_of (λ k. nat_lt k (length ns)) (map (number_in ns) xs)) (below (number_in ns x) (length ns) (stands ns x b.0).below) ∙ numbers_below ns xs b.1

pub front_numbers : (vs ws xs : List ℕ) → Within (vs ++ ws) xs → filter (λ k. nat_lt k (length vs)) (map (number_in (vs ++ ws)) xs) ≡ map (number_in (vs ++ ws)) (filter (is_among vs) xs)
front_numbers vs ws [] h = refl
front_numbers vs ws (x ∷ xs) h =
    let b = both (is_among (vs ++ ws) x) (all_of (is_among (vs ++ ws)) xs) h in
    let k = number_in (vs ++ ws) x in
    ap (λ c. cond c (k ∷ filter (λ k. nat_lt k (length vs)) (map (number_in (vs ++ ws)) xs)) (filter (λ k. nat_lt k (length vs)) (map (number_in (vs ++ ws)) xs))) (is_front vs ws x b.0)
    ∙ by (is_among vs x) (front_numbers vs ws xs b.1)
  where
    by : (b : Bool) → filter (λ k. nat_lt k (length vs)) (map (number_in (vs ++ ws)) xs) ≡ map (number_in (vs ++ ws)) (filter (is_among vs) xs)
        → cond b (number_in (vs ++ ws) x ∷ filter (λ k. nat_lt k (length vs)) (map (number_in (vs ++ ws)) xs)) (filter (λ k. nat_lt k (length vs)) (map (number_in (vs ++ ws)) xs))
        ≡ map (number_in (vs ++ ws)) (cond b (x ∷ filter (is_among vs) xs) (filter (is_among vs) xs))
    by true e = ap (λ l. number_in (vs ++ ws) x ∷ l) e
    by false e = e

pub numbers_of : (ns xs : List ℕ) → filter_map (number_among ns) xs ≡ map (number_in ns) (filter (is_among ns) xs)
numbers_of ns [] = refl
numbers_of ns (x ∷ xs) = by (is_among ns x) refl (numbers_of ns xs)
  where
    by : (b : Bool) → is_among ns x ≡ b → filter_map (number_among ns) xs ≡ map (number_in ns) (filter (is_among ns) xs)
        → cons_option (number_among ns x) (filter_map (number_among ns) xs) ≡ map (number_in ns) (cond b (x ∷ filter (is_among ns) xs) (filter (is_among ns) xs))
    by true e i = ap (λ o. cons_option o (filter_map (number_among ns) xs)) (stands ns x e).number ∙ ap (λ l. number_in ns x ∷ l) i
    by false e i = ap (λ o. cons_option o (filter_map (number_among ns) xs)) (nowhere ns x e) ∙ i

all_one : (ns : List ℕ) (n : ℕ) (ms : List ℕ) → is_other_among ms n ≡ false → all_of (nat_eq (number_in ns n)) (map (number_in ns) ms) ≡ true
all_one ns n [] h = refl
all_one ns n (m ∷ ms) h = by (nat_eq m n) refl (all_one ns n ms) h
  where
    by : (b : Bool) → nat_eq m n ≡ b → (is_other_among ms n ≡ false → all_of (nat_eq (number_in ns n)) (map (number_in ns) ms) ≡ true) → (not b || is_other_among ms n) ≡ false
        → (nat_eq (number_in ns n) (number_in ns m) && all_of (nat_eq (number_in ns n)) (map (number_in ns) ms)) ≡ true
    by true e f w = ap (λ c. c && all_of (nat_eq (number_in ns n)) (map (number_in ns) ms)) (same (number_in ns n) (number_in ns m) (ap (number_in ns) (sym (equal m n e)))) ∙ f w
    by false e f w = cc

-- names of which no two differ have numbers of which none do
pub one_number : (ns xs : List ℕ) → differ xs ≡ false → are_one (map (number_in ns) xs) ≡ true
one_number ns [] h = refl
one_number ns (x ∷ xs) h = all_one ns x xs h

pub among_numbers : (ns xs : List ℕ) (x : ℕ) → is_among xs x ≡ true → kept.is_among (map (number_in ns) xs) (number_in ns x) ≡ true
among_numbers ns [] x h = cc
among_numbers ns (y ∷ ys) x h = by (nat_eq y x) refl (among_numbers ns ys x) h
  where
    by : (b : Bool) → nat_eq y x ≡ b → (is_among ys x ≡ true → kept.is_among (map (number_in ns) ys) (number_in ns x) ≡ true) → (b || is_among ys x) ≡ true
        → (nat_eq (number_in ns y) (number_in ns x) || kept.is_among (map (number_in ns) ys) (number_in ns x)) ≡ true
    by true e f w = ap (λ c. c || kept.is_among (map (number_in ns) ys) (number_in ns x)) (same (number_in ns y) (number_in ns x) (ap (number_in ns) (equal y x e)))
    by false e f w = right (nat_eq (number_in ns y) (number_in ns x)) _ (f w)

pub not_among_numbers : (ns xs : List ℕ) (x : ℕ) → Within ns xs → is_among ns x ≡ true → is_among xs x ≡ false → kept.is_among (map (number_in ns) xs) (number_in ns x) ≡ false
not_among_numbers ns [] x w g h = refl
not_among_numbers ns (y ∷ ys) x w g h =
    let b = both (is_among ns y) (all_of (is_among ns) ys) w in
    let d = either (nat_eq y x) (is_among ys x) h in
    let n : number_in ns y ≡ number_in ns x → ⊥ = λ e. apart (same y x (one_name ns y x b.0 g e)) d.0 in
    ap (λ c. c || kept.is_among (map (number_in ns) ys) (number_in ns x)) (differs (number_in ns y) (number_in ns x) n) ∙ not_among_numbers ns ys x b.1 g d.1
  where
    apart : {b : Bool} → b ≡ true → b ≡ false → ⊥
    apart p q = cc
