-- Names, each where it stands first, as they are collected.
use Rattle.std.proofs.Common.{◌≡◌, ℕ, ◌+◌, ◌<◌, Bool, true, false, cond, not, nat_eq, ◌||◌, List, [], ◌∷◌, ◌++◌, length, get_or, take, map, filter, filter_map, Option, None, Some, ap, refl, ◌∙◌, sym, append_assoc, append-nil}
use Rattle.std.specs.List.{cons_option}
use Rattle.std.proofs.lemmas.List.{take_more, take_all}
use Rattle.metal_grammar.specs.Rules.{is_among}
use Rattle.metal_grammar.specs.Words.{Spelling}
use Rattle.metal_grammar.specs.Meaning.{distinct, global_name, name_for, globals_among, states_among}
use Rattle.metal_grammar.proofs.Numbered.{equal, same, differs}
use Rattle.metal_numbers.specs.Numbers.{added, added_if}
use Rattle.metal_written.specs.declared.written.StateName.{StateName}
use Rattle.metal_written.specs.Written.{state_view}
use Rattle.metal_numbers.proofs.MetalDeclared.InHoles.{map_joined, viewed_more}
use Rattle.metal_numbers.proofs.Choosing.{filtered-joined}

-- all names but one
abbrev without : ℕ → List ℕ → List ℕ
without n xs = filter (λ m. not (nat_eq m n)) xs

among-step : (n x y : ℕ) (ys : List ℕ) (b c : Bool) → nat_eq x n ≡ false → nat_eq y n ≡ b → nat_eq y x ≡ c → is_among (without n ys) x ≡ is_among ys x
    → is_among (cond (not b) (y ∷ without n ys) (without n ys)) x ≡ (c || is_among ys x)
among-step n x y ys false c h p q i = ap (λ a. a || is_among (without n ys) x) q ∙ ap (λ a. c || a) i
among-step n x y ys true false h p q i = i
among-step n x y ys true true h p q i = let e = equal y x q in let f : nat_eq x n ≡ true = ap (λ k. nat_eq k n) (sym e) ∙ p in cc

-- the others stay
without-among : (n x : ℕ) (xs : List ℕ) → nat_eq x n ≡ false → is_among (without n xs) x ≡ is_among xs x
without-among n x [] h = refl
without-among n x (y ∷ ys) h = among-step n x y ys (nat_eq y n) (nat_eq y x) h refl refl (without-among n x ys h)

without-end : (n x : ℕ) (D : List ℕ) (b : Bool) → nat_eq x n ≡ b → without n (D ++ (x ∷ [])) ≡ without n D ++ cond (not b) (x ∷ []) []
without-end n x D b p = filtered-joined (λ m. not (nat_eq m n)) D (x ∷ []) ∙ ap (λ c. without n D ++ cond (not c) (x ∷ []) []) p

flipped : (n x : ℕ) → nat_eq n x ≡ false → nat_eq x n ≡ false
flipped n x h = differs x n (λ e. let f = same n x (sym e) in cc)

added-apart : (n x : ℕ) (D : List ℕ) (c : Bool) → is_among (without n D) x ≡ c → nat_eq x n ≡ false
    → n ∷ without n (cond c D (D ++ (x ∷ []))) ≡ cond (is_among (without n D) x) (n ∷ without n D) (n ∷ (without n D ++ (x ∷ [])))
added-apart n x D true g e = ap (λ a. cond a (n ∷ without n D) (n ∷ (without n D ++ (x ∷ [])))) (sym g)
added-apart n x D false g e =
    ap (λ ys. n ∷ ys) (without-end n x D false e) ∙ ap (λ a. cond a (n ∷ without n D) (n ∷ (without n D ++ (x ∷ [])))) (sym g)

added-step : (n x : ℕ) (D : List ℕ) (b c : Bool) → nat_eq n x ≡ b → is_among D x ≡ c
    → n ∷ without n (cond c D (D ++ (x ∷ []))) ≡ cond (b || is_among (without n D) x) (n ∷ without n D) (n ∷ (without n D ++ (x ∷ [])))
added-step n x D true true p q = refl
added-step n x D true false p q = ap (λ ys. n ∷ ys) (without-end n x D true (same x n (sym (equal n x p))) ∙ append-nil (without n D))
added-step n x D false c p q = let e = flipped n x p in added-apart n x D c (without-among n x D e ∙ q) e

-- one name more
distinct-push : (xs : List ℕ) (x : ℕ) → distinct (xs ++ (x ∷ [])) ≡ added (distinct xs) x
distinct-push [] x = refl
distinct-push (n ∷ ns) x =
    ap (λ ys. n ∷ without n ys) (distinct-push ns x) ∙ added-step n x (distinct ns) (nat_eq n x) (is_among (distinct ns) x) refl refl

cons-joined : (o : Option ℕ) (xs ys zs : List ℕ) → xs ≡ ys ++ zs → cons_option o xs ≡ cons_option o ys ++ zs
cons-joined None xs ys zs h = h
cons-joined (Some n) xs ys zs h = ap (λ l. n ∷ l) h

found-joined : {A : Type 0} (f : A → Option ℕ) (xs ys : List A) → filter_map f (xs ++ ys) ≡ filter_map f xs ++ filter_map f ys
found-joined f [] ys = refl
found-joined f (x ∷ xs) ys = cons-joined (f x) _ _ _ (found-joined f xs ys)

added-found : (D : List ℕ) (o : Option ℕ) → distinct (D ++ cons_option o []) ≡ added_if (distinct D) o
added-found D None = ap distinct (append-nil D)
added-found D (Some n) = distinct-push D n

pub distinct_more : {A B : Type 0} (f : B → Option ℕ) (view : A → B) (xs : List A) (i : ℕ) (d : A) → i < length xs
    → distinct (filter_map f (map view (take (i + 1) xs))) ≡ added_if (distinct (filter_map f (map view (take i xs)))) (f (view (get_or xs i d)))
distinct_more f view xs i d h =
    ap (λ ys. distinct (filter_map f ys)) (viewed_more view xs i d h)
    ∙ ap distinct (found-joined f (map view (take i xs)) (view (get_or xs i d) ∷ []))
    ∙ added-found (filter_map f (map view (take i xs))) (f (view (get_or xs i d)))

-- one state more
pub globals_more : (spelling : Spelling) (states : List StateName) (i : ℕ) (d : StateName) → i < length states
    → globals_among spelling (map state_view (take (i + 1) states)) ≡ added_if (globals_among spelling (map state_view (take i states))) (global_name spelling (state_view (get_or states i d)))
globals_more spelling states i d h = distinct_more (global_name spelling) state_view states i d h

pub states_more : (spelling : Spelling) (states : List StateName) (variable i : ℕ) (d : StateName) → i < length states
    → states_among spelling (map state_view (take (i + 1) states)) variable ≡ added_if (states_among spelling (map state_view (take i states)) variable) (name_for spelling variable (state_view (get_or states i d)))
states_more spelling states variable i d h = distinct_more (name_for spelling variable) state_view states i d h

pub ruleset distincts = (take_all, globals_more, states_more)

pub ruleset mentions = (map_joined, append_assoc)
